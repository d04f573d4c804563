use Rattle.std.proofs.Common.{◌∙◌, ℕ, ◌/◌, ap}
use Rattle.std.proofs.lemmas.Nat.{div-add-mod', div_below}
use Rattle.ps_model.specs.declared.pieces.Motion.TheVariants.{Going}
use Rattle.ps_model.specs.board.Grid.{Grid, motion_in, slot_at}
use Rattle.ps_model.specs.meaning.Fitting.{same_motion}
use Rattle.ps_rows.specs.Showing.{grid_shown}
use Rattle.ps_rows.proofs.row_board.RowBoardBoard.goes.Goals as goal

pub returns : goal.returns
returns g c =
    let b = c.args.self.now in
    let grid : Grid = grid_shown b.members.table.items b.width b.planes.height b.layers b.planes.words.items in
    let height : ℕ = b.planes.height in
    let cell : ℕ = c.args.cell in
    let across = div_below cell height b.width b.planes.some_row c.requires.0 in
    c.has.ensures ∙ c.motion_row.ensures (cell / height) across
    ∙ ap (λ (at : ℕ). same_motion (Going c.args.direction) (motion_in (slot_at grid at c.args.layer.0)))
    (div-add-mod' cell height)
