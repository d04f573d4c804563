use Rattle.ps_laws.proofs.common.StraightPlaces.{places_straight}
use Rattle.ps_laws.proofs.common.BoardPlaces.{places_lie, places_whole}
use Rattle.ps_laws.proofs.laws_of_boards.places_lie_on_boards.Goals as goal

pub returns-clause-within : goal.returns-clause-within
returns-clause-within c = places_lie

pub returns-clause-whole : goal.returns-clause-whole
returns-clause-whole c = places_whole

pub returns-clause-straight : goal.returns-clause-straight
returns-clause-straight c = places_straight
