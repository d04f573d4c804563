use Rattle.std.proofs.Common.{◌≡◌, ◌++◌, ◌+◌, ◌-◌, length}
use Rattle.ps_view.specs.Rows.{rows_of_words, wrapped}
use Rattle.ps_view.proofs.rows.wrapped.Given as goal

-- the rows so far, and those that the characters to come make
abbrev pub invariant-loop-row : goal.invariant-loop-row
invariant-loop-row l =
    l.rows.items ++ rows_of_words (length l.text + 1 - l._row) l.columns l.rest ≡ wrapped l.columns l.text
