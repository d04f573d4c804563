use Rattle.std.proofs.Common.{◌≡◌, ◌∙◌, ◌<◌, ℕ, ◌/◌, ◌%◌, Bool, true, false, [], not, arith, sym, ap}
use Rattle.std.proofs.Common.{refl}
use Rattle.std.proofs.lemmas.Nat.{div-add-mod', div_below, mod_below}
use Rattle.ps_model.specs.board.Grid.{Grid, slot_at}
use Rattle.ps_board.specs.ColumnSets.{set_columns}
use Rattle.ps_board.specs.RowsOfGrids.{goes_in}
use Rattle.ps_board.proofs.ColumnLaws.{none_in}
use Rattle.ps_rows.specs.Showing.{grid_shown}
use Rattle.ps_rows.proofs.row_board.RowBoardBoard.may_go.Goals as goal

pub returns : goal.returns
returns g c = λ none cell within.
    let b = c.args.self.now in
    let grid : Grid = grid_shown b.members.table.items b.width b.planes.height b.layers b.planes.words.items in
    let height : ℕ = b.planes.height in
    let row : ℕ = cell % height in
    let down : row < height = mod_below cell height b.planes.some_row in
    let across = div_below cell height b.width b.planes.some_row within in
    let off : c.is_empty.result ≡ true = not_false c.is_empty.result none in
    let empty : set_columns c.rows_moving.result ≡ [] = c.is_empty.ensures.none off in
    let out = none_in c.rows_moving.result row empty (omega (arith, down, b.planes.low)) in
    ap (λ (at : ℕ). goes_in c.args.direction (slot_at grid at c.args.layer.0)) (sym (div-add-mod' cell height))
    ∙ c.rows_moving.ensures row down out (cell / height) across
  where
    not_false : (b : Bool) → not b ≡ false → b ≡ true
    not_false true e = refl
    not_false false e = absurd (cc)
