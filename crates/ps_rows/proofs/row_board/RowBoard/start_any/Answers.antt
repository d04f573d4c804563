use Rattle.std.proofs.Common.{Bool, List, length, replicate, subst}
use Rattle.ps_model.specs.board.Grid.{Grid}
use Rattle.ps_rows.specs.Showing.{grid_shown}
use Rattle.ps_rows.specs.RowsKept.{AreKept, are_away}
use Rattle.ps_rows.proofs.RowsKept.{kept_any}
use Rattle.ps_rows.proofs.row_board.RowBoard.start_any.Goals as goal

pub returns : goal.returns
returns g c =
    let b = c.args.self.now in
    let grid : Grid = grid_shown b.members.table.items b.width b.planes.height b.layers b.planes.words.items in
    let P : List (List Bool) → Type 0 =
    λ old. AreKept grid c.args.first old c.keep_none.new.found (are_away c.args.objects.now) in
    kept_any grid c.args.first (length c.args.found.now) b.all_columns c.args.objects.now c.keep_none.new.found
    c.turn_round.new.found b.columns (subst P c.fill.ensures c.keep_none.ensures) c.turn_round.ensures.round
    c.turn_round.ensures.long
