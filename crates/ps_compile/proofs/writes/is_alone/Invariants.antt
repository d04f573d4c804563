use Rattle.std.proofs.Common.{◌≡◌, drop}
use Rattle.ps_model.specs.meaning.CompiledCells.{is_alone}
use Rattle.ps_compile.proofs.writes.is_alone.Given as goal

abbrev pub invariant-loop-other : goal.invariant-loop-other
invariant-loop-other l = is_alone (drop l.other-index l.claims) l.claim ≡ is_alone l.claims l.claim
