use Rattle.std.proofs.Common.{◌≡◌, ◌∙◌, true, false, sym, subst}
use Rattle.std.proofs.lemmas.Option.{same_Some}
use Rattle.ps_model.specs.declared.pieces.Motion.{Motion}
use Rattle.ps_model.specs.board.Grid.{Grid, cell_at}
use Rattle.ps_rows.specs.PutAlready.{of_its_layer}
use Rattle.ps_rows.specs.RowTests.{moved}
use Rattle.ps_rows.specs.Showing.{grid_shown}
use Rattle.ps_rows.proofs.PutAlready.{passed_there}
use Rattle.ps_rows.proofs.row_board.RowBoard.moves_so.Goals as goal

pub returns : goal.returns
returns g c = λ so.
    let b = c.args.self.now in
    let grid : Grid = grid_shown b.members.table.items b.width b.planes.height b.layers b.planes.words.items in
    record {
      at = λ motion cell is inside on.
          subst (λ (m : Motion). moved (of_its_layer m c.args.each.now) (cell_at grid cell) ≡ true)
          (same_Some c.in-Some.motion motion (sym c.in-Some.is ∙ is))
          (passed_there grid c.args.row c.args.columns c.motion_row.result c.without.result
          (moved (of_its_layer c.in-Some.motion c.args.each.now)) b.planes.some_row b.columns c.motion_row.ensures
          c.without.ensures (c.is_empty.ensures.none so) cell inside on);
    }
