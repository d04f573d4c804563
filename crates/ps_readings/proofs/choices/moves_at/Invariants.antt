use Rattle.std.proofs.Common.{◌≡◌, ◌++◌, drop}
use Rattle.std.specs.Prelude.{map}
use Rattle.ps_readings.proofs.choices.moves_at.Given as goal

abbrev pub invariant-loop-motion : goal.invariant-loop-motion
invariant-loop-motion l = l.choices.items ++ map (λ motion.
    (l.at, motion)) (drop l.motion-index l.moves) ≡ map (λ motion. (l.at, motion)) l.moves
