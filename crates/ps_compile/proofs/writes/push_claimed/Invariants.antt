use Rattle.std.proofs.Common.{◌≡◌, ◌++◌, drop}
use Rattle.std.specs.Prelude.{map}
use Rattle.ps_model.specs.meaning.CompiledCells.{claim_write}
use Rattle.ps_compile.proofs.writes.push_claimed.Given as goal

abbrev pub invariant-loop-claim : goal.invariant-loop-claim
invariant-loop-claim l = l.writes.items ++ map (claim_write l.left) (drop l.claim-index l.right) ≡
    l.initial.writes.items ++ map (claim_write l.left) l.right
