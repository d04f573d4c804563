use Rattle.ps_laws.proofs.grids.KeptSides.{slid-sides, at_rest-sides, with_input-sides, turn-sides}
use Rattle.ps_laws.proofs.laws_of_sides.turns_keep_sides.Goals as goal

pub returns : goal.returns
returns c = record { slides = slid-sides; rest = at_rest-sides; inputs = with_input-sides; turns = turn-sides }
