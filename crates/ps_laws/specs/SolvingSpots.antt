-- Spots of a level. How a level goes on is decided by its spot, whatever was done before and whatever room is seen; who
-- leaves a level is past it, and stays so.
use Rattle.std.specs.Prelude.{◌≡◌, ℕ, true, false, Some, None, is_none, List}
use Rattle.ps_model.specs.declared.play.Input.{Input}
use Rattle.ps_model.specs.declared.play.Key.TheVariants.{Move}
use Rattle.ps_model.specs.board.Turns.{Script}
use Rattle.ps_model.specs.session.Sessions.{Session}
use Rattle.ps_model.specs.session.KeySteps.{key_step}
use Rattle.ps_model.specs.session.Solving.{session_after_inputs, is_past, Spot, spot, at_spot, spot_after_inputs}

-- sessions at one spot are at one spot after an input too, or have both left the level
abbrev pub SpotsDecide : Type 0
SpotsDecide =
    (script : Script) (entry : ℕ) (first second : Session) (here : Spot) → spot entry first ≡ Some here →
    spot entry second ≡ Some here → (input : Input) →
    spot entry (key_step script first (Move input)).session ≡ spot entry (key_step script second (Move input)).session

-- there is a session at each spot
abbrev pub SpotsAreOfSessions : Type 0
SpotsAreOfSessions = (entry : ℕ) (here : Spot) → spot entry (at_spot entry here) ≡ Some here

-- who is in a level isn't past it
abbrev pub LevelsAreNotPast : Type 0
LevelsAreNotPast = (entry : ℕ) (session : Session) (here : Spot) → spot entry session ≡ Some here →
    is_past entry session ≡ false

-- an input that leaves a level leads past it
abbrev pub LeftLevelsArePast : Type 0
LeftLevelsArePast =
    (script : Script) (entry : ℕ) (session : Session) (here : Spot) → spot entry session ≡ Some here →
    (input : Input) → spot entry (key_step script session (Move input)).session ≡ None →
    is_past entry (key_step script session (Move input)).session ≡ true

-- who is past an entry stays so
abbrev pub PastStaysPast : Type 0
PastStaysPast =
    (script : Script) (entry : ℕ) (session : Session) (input : Input) → is_past entry session ≡ true →
    is_past entry (key_step script session (Move input)).session ≡ true

-- a list of inputs leads past where it leads from the spot of the session to no spot
abbrev pub ListsGoBySpots : Type 0
ListsGoBySpots =
    (script : Script) (entry : ℕ) (session : Session) (here : Spot) → spot entry session ≡ Some here →
    (inputs : List Input) →
    is_past entry (session_after_inputs script session inputs) ≡ is_none (spot_after_inputs script entry here inputs)
