use Rattle.std.proofs.Common.{◌≡◌, drop}
use Rattle.std.specs.Prelude.{nat_eq}
use Rattle.std.specs.List.{list_any}
use Rattle.ps_readings.proofs.possible.some_is_on.Given as goal

abbrev pub invariant-loop-claim : goal.invariant-loop-claim
invariant-loop-claim l = list_any (λ other. nat_eq l.layer.0 (other.layer).0) (drop l.claim-index l.claims) ≡ list_any
    (λ other. nat_eq l.layer.0 (other.layer).0) l.claims
