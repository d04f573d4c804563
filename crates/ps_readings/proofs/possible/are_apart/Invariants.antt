use Rattle.std.proofs.Common.{◌≡◌, length}
use Rattle.ps_model.specs.meaning.ReadingMeanings.{are_apart}
use Rattle.ps_readings.proofs.possible.are_apart.Given as goal

abbrev pub invariant-loop-first : goal.invariant-loop-first
invariant-loop-first l = are_apart l.rest ≡ are_apart l.claims

abbrev pub decreases-loop-first : goal.decreases-loop-first
decreases-loop-first l = length l.rest
