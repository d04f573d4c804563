use Rattle.std.proofs.Common.{◌≡◌, ◌++◌, drop}
use Rattle.std.specs.Prelude.{map, filter}
use Rattle.ps_model.specs.meaning.CompiledCells.{is_alone, clear_write}
use Rattle.ps_compile.proofs.writes.push_cleared.Given as goal

abbrev pub invariant-loop-claim : goal.invariant-loop-claim
invariant-loop-claim l = l.writes.items ++ map clear_write (filter (is_alone l.right) (drop l.claim-index l.left)) ≡
    l.initial.writes.items ++ map clear_write (filter (is_alone l.right) l.left)
