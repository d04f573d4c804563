use Rattle.std.proofs.Common.{◌≡◌, drop}
use Rattle.std.specs.Prelude.{nat_eq}
use Rattle.std.specs.Map.{lookup}
use Rattle.ps_readings.proofs.reading.move_at.Given as goal

abbrev pub invariant-loop-number : goal.invariant-loop-number
invariant-loop-number l = lookup (nat_eq l.at) (drop l.number-index l.moves) ≡ lookup (nat_eq l.at) l.moves
