use Rattle.std.proofs.Common.{◌/◌, ◌∙◌, ap, Bool, List}
use Rattle.ps_rows.specs.Planes.{has_cell}
use Rattle.ps_board.specs.ColumnSets.{column_at}
use Rattle.ps_rows.proofs.planes.Planes.has_cell.Goals as goal

pub returns : goal.returns
unfolding has_cell
returns g c = c.has.ensures ∙ ap (λ (word : List Bool).
    column_at word (c.args.cell / c.args.self.now.height)) c.row.ensures
