use Rattle.std.proofs.Common.{◌≡◌, drop}
use Rattle.ps_model.specs.meaning.Rewriting.{claim_on}
use Rattle.ps_compile.proofs.writes.claim_on.Given as goal

abbrev pub invariant-loop-claim : goal.invariant-loop-claim
invariant-loop-claim l = claim_on l.layer.0 (drop l.claim-index l.claims) ≡ claim_on l.layer.0 l.claims
