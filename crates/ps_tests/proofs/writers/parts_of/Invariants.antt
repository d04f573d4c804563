use Rattle.std.specs.Prelude.{All}
use Rattle.ps_laws.specs.WholeRows.{HasCells}
use Rattle.ps_tests.proofs.writers.parts_of.Given as goal

-- so are all that were made
abbrev pub invariant-loop-letters : goal.invariant-loop-letters
invariant-loop-letters l = All HasCells l.all.items
