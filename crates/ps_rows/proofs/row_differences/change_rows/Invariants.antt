use Rattle.std.proofs.Common.{◌≡◌, drop}
use Rattle.ps_rows.specs.RowDifferences.{rows_changed}
use Rattle.ps_rows.proofs.row_differences.change_rows.Given as goal

-- what is left to do comes to the whole
abbrev pub invariant-loop-difference : goal.invariant-loop-difference
invariant-loop-difference g l =
    (rows_changed l.initial.planes.height l.planes.words.items (drop l.difference-index l.rows)
    ≡ rows_changed l.initial.planes.height l.initial.planes.words.items l.rows)
    × (l.planes.height ≡ l.initial.planes.height) × (l.planes.words.len ≡ l.initial.planes.words.len)
