use Rattle.std.proofs.Common.{length}
use Rattle.ps_places.proofs.ways.+first_way.Given as goal

abbrev pub decreases-first_way : goal.decreases-first_way
decreases-first_way g l = length l.parts.now
