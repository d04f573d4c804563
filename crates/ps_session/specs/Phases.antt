-- What a player may do next.
use Rattle.ps_model.specs.session.Sessions as model
use Rattle.ps_session.specs.declared.phase.Phase.{Phase}
use Rattle.ps_session.specs.declared.phase.Phase.TheVariants.{Playing, Message, Ended}

-- the phase of a session
abbrev pub phase_of : model.Session → Phase
phase_of (model.Playing play) = Playing
phase_of (model.Waiting play pending) = Message
phase_of (model.AtMessage entry) = Message
phase_of (model.Ended ending) = Ended ending
