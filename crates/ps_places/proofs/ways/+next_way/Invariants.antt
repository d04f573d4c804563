use Rattle.std.proofs.Common.{length}
use Rattle.ps_places.proofs.ways.+next_way.Given as goal

abbrev pub decreases-next_way : goal.decreases-next_way
decreases-next_way g l = length l.parts.now
