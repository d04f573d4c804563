use Rattle.std.proofs.Common.{◌∙◌, refl}
use Rattle.ps_replay.proofs.SessionPlaces.{in_level, in_none}
use Rattle.ps_replay.proofs.places.place_in.Goals as goal

pub returns-in-Some : goal.returns-in-Some
returns-in-Some g c =
    in_level c.args.session.now.session _ _ c.number.result c.in-Some.ensures.level.1
    (c.number.ensures.number ∙ c.entry.ensures)

pub returns-in-None : goal.returns-in-None
returns-in-None g c =
    in_none c.args.session.now.session c.ending.result (c.in-None.ensures.nowhere refl) c.ending.ensures
