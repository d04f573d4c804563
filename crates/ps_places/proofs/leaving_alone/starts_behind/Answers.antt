use Rattle.std.proofs.Common.{◌∙◌, ◌+◌, Bool, List, sym, ap}
use Rattle.ps_board.specs.ColumnSets.{column_at}
use Rattle.ps_board.proofs.ColumnLaws.{column_at-where}
use Rattle.ps_program.specs.declared.rows.Axis.{Axis}
use Rattle.ps_places.specs.LeavingAlone.{starts_behind}
use Rattle.ps_places.proofs.leaving_alone.starts_behind.Goals as goal

pub returns-in-Right : goal.returns-in-Right
returns-in-Right g c = λ x low.
    ap (λ (cs : List Bool). column_at cs x) c.behind.ensures
    ∙ column_at-where (λ y. column_at c.kept_on_row-in-Right.result (y + c.args.distance)) x low
    ∙ c.kept_on_row-in-Right.ensures (x + c.args.distance)
    ∙ ap (λ (axis : Axis). starts_behind axis c.args.rows c.args.starts.now c.args.distance c.args.row x)
    (sym c.in-Right.is)
