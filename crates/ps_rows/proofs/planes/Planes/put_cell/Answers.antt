use Rattle.std.specs.Prelude.{nat_eq, if◌then◌else◌}
use Rattle.std.proofs.Common.{◌%◌, ◌/◌, true, refl, Bool, List, subst, sym}
use Rattle.ps_board.specs.ColumnSets.{column_at}
use Rattle.ps_rows.specs.Planes.{IsSet}
use Rattle.ps_rows.proofs.Sets.{set_where}
use Rattle.ps_rows.proofs.Untouched.{cell_set}
use Rattle.ps_rows.proofs.planes.Planes.put_cell.Goals as goal

pub put_row-requires-clause-set : goal.put_row-requires-clause-set
put_row-requires-clause-set g c =
    let P : List Bool → Type 0 = λ set. IsSet set in
    subst P (sym c.with-word.ensures) (set_where (λ x.
    if nat_eq x (c.args.cell / c.args.self.now.height) then true else column_at c.row.result x))

pub returns-clause-words : goal.returns-clause-words
returns-clause-words g c =
    let p = c.args.self.now in
    rw (c.put_row.ensures.words, c.with-word.ensures, c.row.ensures)
    (cell_set p.height c.args.cell c.args.plane (c.args.cell % p.height) (c.args.cell / p.height) p.words.items true
    refl refl)
