-- Solving a level: whether directions and `x` lead past it, and by how few of them. A level is won where a session comes
-- past it; what the start of a level does without a key doesn't count, so no level is won by no key.
use Rattle.std.specs.Prelude.{◌≡◌, ℕ, ◌≤◌, ◌==◌, Bool, true, false, nat_lt, Option, Some, None, List, [], ◌∷◌, length}
use Rattle.std.specs.Option.{option_and_then}
use Rattle.ps_model.specs.declared.play.Input.{Input}
use Rattle.ps_model.specs.declared.play.Key.TheVariants.{Move}
use Rattle.ps_model.specs.board.Grid.{Grid}
use Rattle.ps_model.specs.board.Turns.{Script}
use Rattle.ps_model.specs.session.Sessions.{Play, Pending, Session, Playing, Waiting, AtMessage, Ended}
use Rattle.ps_model.specs.session.StartSteps.{first_room}
use Rattle.ps_model.specs.session.KeySteps.{key_step}

-- the session after inputs, one after the other
abbrev pub session_after_inputs : Script → Session → List Input → Session
session_after_inputs script session [] = session
session_after_inputs script session (input ∷ inputs) =
    session_after_inputs script (key_step script session (Move input)).session inputs

-- the session is past the entry: it is at a later one, or at the end
abbrev pub is_past : ℕ → Session → Bool
is_past entry (Playing play) = nat_lt entry play.entry
is_past entry (Waiting play pending) = nat_lt entry play.entry
is_past entry (AtMessage at) = nat_lt entry at
is_past entry (Ended ending) = true

-- winning -------------------------------------------------------------------------------------------------------------

-- the inputs lead past the entry
abbrev pub Wins : Script → ℕ → Session → List Input → Type 0
Wins script entry session inputs = is_past entry (session_after_inputs script session inputs) ≡ true

-- they do, and no list of fewer does
pub record WinsInFewest (script : Script) (entry : ℕ) (session : Session) (inputs : List Input) : Type 0 where
  pub wins : Wins script entry session inputs
  pub fewest : (others : List Input) → Wins script entry session others → length inputs ≤ length others

-- no list does
abbrev pub NeverWins : Script → ℕ → Session → Type 0
NeverWins script entry session =
    (inputs : List Input) → is_past entry (session_after_inputs script session inputs) ≡ false

-- no list of at most `depth` inputs does
abbrev pub NotWithin : Script → ℕ → Session → ℕ → Type 0
NotWithin script entry session depth =
    (inputs : List Input) → length inputs ≤ depth →
    is_past entry (session_after_inputs script session inputs) ≡ false

-- spots ---------------------------------------------------------------------------------------------------------------

-- what a level goes on by: its board, the board that a restart goes back to, and, where a message waits, what it goes on
-- with. The room that is seen and the boards that undo goes back to make no difference
pub record Spot : Type 0 where
  pub board : Grid
  pub restart_board : Grid
  pub waits : Option Pending

-- the spot of a level that is played, if it is that of the entry
abbrev pub spot_of : Bool → Play → Option Pending → Option Spot
spot_of false play waits = None
spot_of true play waits = Some (record { board = play.board; restart_board = play.restart_board; waits = waits })

-- where a session is in the level of an entry, if it is there
abbrev pub spot : ℕ → Session → Option Spot
spot entry (Playing play) = spot_of (play.entry == entry) play None
spot entry (Waiting play pending) = spot_of (play.entry == entry) play (Some pending)
spot entry (AtMessage at) = None
spot entry (Ended ending) = None

-- a session at a spot: of the first room, and with nothing to undo
abbrev pub at_spot : ℕ → Spot → Session
at_spot entry here =
    let play : Play = record {
      entry = entry;
      board = here.board;
      history = [];
      restart_board = here.restart_board;
      room = first_room;
    } in
    elim here.waits [ None ↦ Playing play | Some pending ↦ Waiting play pending ]

-- the spot that an input leads to from a spot, if it stays in the level
abbrev pub next_spot : Script → ℕ → Spot → Input → Option Spot
next_spot script entry here input = spot entry (key_step script (at_spot entry here) (Move input)).session

-- the spot that inputs lead to, one after the other, if they stay in the level
abbrev pub spot_after_inputs : Script → ℕ → Spot → List Input → Option Spot
spot_after_inputs script entry here [] = Some here
spot_after_inputs script entry here (input ∷ inputs) =
    option_and_then (λ next. spot_after_inputs script entry next inputs) (next_spot script entry here input)
