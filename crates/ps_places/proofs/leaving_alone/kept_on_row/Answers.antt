use Rattle.std.proofs.Common.{◌≡◌, ◌∙◌, ◌&&◌, Bool, false, List, arith, sym, ap, rules}
use Rattle.std.proofs.Math.Bool.{and-false}
use Rattle.ps_board.specs.ColumnSets.{column_at}
use Rattle.ps_places.specs.PartStarts.{columns_on}
use Rattle.ps_places.proofs.AlonePlaces.{none_kept}
use Rattle.ps_places.proofs.LineSets.{none_has}
use Rattle.ps_places.proofs.leaving_alone.kept_on_row.Goals as goal

pub returns-then-not-has : goal.returns-then-not-has
returns-then-not-has g c = λ x.
    let off : column_at c.args.rows c.args.row ≡ false = search rules in
    none_has c.none.result x c.none.ensures
    ∙ sym (ap (λ (b : Bool). b && column_at (columns_on c.args.starts.now c.args.row) x) off)

pub returns-then-starts-row : goal.returns-then-starts-row
returns-then-starts-row g c = λ x.
    none_has c.none-then-starts-row.result x c.none-then-starts-row.ensures
    ∙ sym (ap (λ (columns : List Bool). column_at c.args.rows c.args.row && column_at columns x)
    (none_kept c.args.starts.now c.args.row (omega arith))
    ∙ and-false (column_at c.args.rows c.args.row))
