-- Levels that are solved, worked by hand. One push brings a crate onto a target. One crate can't be moved. One level is won
-- on a board that the key leaves as it is.
use Rattle.std.proofs.Common.{◌≡◌, ◌⊎◌, inl, inr, ap, ℕ, List, [], ◌∷◌, refl, Option, Some, None, true, false, true≢false, sym, ◌≤◌, length, arith, is_none, ◌∙◌}
use Rattle.std.specs.Prelude.{codes}
use Rattle.std.specs.Option.{option_and_then}
use Rattle.std.specs.Str.{chars, is_utf8}
use Rattle.std.specs.Str.Lossy.{utf8_valid_len}
use Rattle.std.specs.Fmt.{digits}
use Rattle.std.proofs.Math.Utf8.{encode}
use Rattle.ps_model.specs.declared.play.Input.{Input}
use Rattle.ps_model.specs.declared.play.Input.TheVariants.{Up, Down, Left, Right, Action}
use Rattle.ps_model.specs.declared.pieces.Motion.TheVariants.{Still}
use Rattle.ps_model.specs.declared.pieces.Slot.{Slot}
use Rattle.ps_model.specs.declared.pieces.Slot.TheVariants.{Bare, Holds}
use Rattle.ps_model.specs.board.Grid.{Grid}
use Rattle.ps_model.specs.board.Programs.{group, program_run}
use Rattle.ps_model.specs.board.Turns.{Script, script_of, turn}
use Rattle.ps_model.specs.session.KeySteps.{all_key_turns}
use Rattle.ps_model.specs.session.StartSteps.{all_start_turns}
use Rattle.ps_model.specs.session.Sessions.{Session}
use Rattle.ps_model.specs.session.Solving.{session_after_inputs, is_past, WinsInFewest, NeverWins, Spot, spot, next_spot}
use Rattle.ps_model.specs.session.Solving.{spot_after_inputs}
use Rattle.ps_model.specs.text.Lines.{lines_of}
use Rattle.ps_model.specs.game.Games.{game, game_read}
use Rattle.ps_model.specs.game.Outputs.{opening_step}
use Rattle.ps_laws.proofs.sessions.SolvingSpots.{lists_go_by_spots}
use Rattle.ps_examples.proofs.games.BaseText.{base_game}

-- a game in which crates are pushed onto targets
abbrev pushing_text : List ℕ → List ℕ
pushing_text rows = base_game (codes "[ > Player | Crate ] -> [ > Player | > Crate ]\n") (codes "All Target on Crate\n") rows

abbrev pushing : List ℕ → Script
pushing rows = script_of (game_read (lines_of (pushing_text rows)))

-- its text is a game
is_a_game : game (pushing_text (codes "P*O\n")) ≡ Some (game_read (lines_of (pushing_text (codes "P*O\n"))))
unfolding chars digits is_utf8 utf8_valid_len encode
is_a_game = refl

-- one push ------------------------------------------------------------------------------------------------------------

pushed : is_past 0 (session_after_inputs (pushing (codes "P*O\n")) (opening_step (pushing (codes "P*O\n"))).session (Right ∷ [])) ≡ true
unfolding chars digits is_utf8 utf8_valid_len encode group program_run all_start_turns all_key_turns turn opening_step
pushed = refl

not_at_once : is_past 0 (opening_step (pushing (codes "P*O\n"))).session ≡ false
unfolding chars digits is_utf8 utf8_valid_len encode group program_run all_start_turns all_key_turns turn opening_step
not_at_once = refl

at_least_one : (script : Script) (session : Session) → is_past 0 session ≡ false → (others : List Input) → is_past 0 (session_after_inputs script session others) ≡ true → 1 ≤ length others
at_least_one script session h [] wins = absurd (true≢false (sym wins ∙ h))
at_least_one script session h (input ∷ inputs) wins = omega arith

-- it is solved by one key, and by no fewer
won_in_one : WinsInFewest (pushing (codes "P*O\n")) 0 (opening_step (pushing (codes "P*O\n"))).session (Right ∷ [])
won_in_one = record {
  wins = pushed;
  fewest = at_least_one (pushing (codes "P*O\n")) (opening_step (pushing (codes "P*O\n"))).session not_at_once;
}

-- a key that changes nothing ------------------------------------------------------------------------------------------

-- `x` wins, and leaves the board as it is
abbrev winning : Script
winning = script_of (game_read (lines_of (base_game (codes "[ action Player ] -> win\n") [] (codes "P.\n"))))

won_by_action : is_past 0 (session_after_inputs winning (opening_step winning).session (Action ∷ [])) ≡ true
unfolding chars digits is_utf8 utf8_valid_len encode group program_run all_start_turns all_key_turns turn opening_step
won_by_action = refl

not_by_a_step : is_past 0 (session_after_inputs winning (opening_step winning).session (Right ∷ [])) ≡ false
unfolding chars digits is_utf8 utf8_valid_len encode group program_run all_start_turns all_key_turns turn opening_step
not_by_a_step = refl

-- nothing wins --------------------------------------------------------------------------------------------------------

-- the spot that an input leads to, if it stays in the level
abbrev given : Script → Input → Option Spot → Option Spot
given script input here = option_and_then (λ at. next_spot script 0 at input) here

-- the spot that inputs lead to
abbrev after_all : Script → List Input → Option Spot → Option Spot
after_all script inputs here = option_and_then (λ at. spot_after_inputs script 0 at inputs) here

one_by_one : (script : Script) (input : Input) (inputs : List Input) (here : Option Spot) →
    after_all script (input ∷ inputs) here ≡ after_all script inputs (given script input here)
one_by_one script input inputs None = refl
one_by_one script input inputs (Some here) = refl

-- two spots that each input leads to one of
record AreClosed (script : Script) (first second : Option Spot) : Type 0 where
  first_there : is_none first ≡ false
  second_there : is_none second ≡ false
  first_stays : (input : Input) → (given script input first ≡ first) ⊎ (given script input first ≡ second)
  second_stays : (input : Input) → (given script input second ≡ first) ⊎ (given script input second ≡ second)

is_there : (script : Script) (here : Option Spot) → is_none here ≡ false → is_none (after_all script [] here) ≡ false
is_there script None h = h
is_there script (Some here) h = refl

-- no list leads from them to no spot
stay_there : (script : Script) (first second : Option Spot) → AreClosed script first second → (inputs : List Input) →
    (is_none (after_all script inputs first) ≡ false) × (is_none (after_all script inputs second) ≡ false)
stay_there script first second closed [] = (is_there script first closed.first_there, is_there script second closed.second_there)
stay_there script first second closed (input ∷ inputs) =
    let rest = stay_there script first second closed inputs in
    (from first (closed.first_stays input) rest, from second (closed.second_stays input) rest)
  where
    from : (here : Option Spot) → (given script input here ≡ first) ⊎ (given script input here ≡ second) →
        (is_none (after_all script inputs first) ≡ false) × (is_none (after_all script inputs second) ≡ false) →
        is_none (after_all script (input ∷ inputs) here) ≡ false
    from here (inl to_first) rest = ap is_none (one_by_one script input inputs here ∙ ap (after_all script inputs) to_first) ∙ rest.0
    from here (inr to_second) rest = ap is_none (one_by_one script input inputs here ∙ ap (after_all script inputs) to_second) ∙ rest.1

-- so nothing wins from a session at the first
never_by : (script : Script) (session : Session) (first second : Option Spot) → spot 0 session ≡ first →
    AreClosed script first second → NeverWins script 0 session
never_by script session None second e closed inputs = absurd (true≢false closed.first_there)
never_by script session (Some here) second e closed inputs =
    lists_go_by_spots script 0 session here e inputs ∙ (stay_there script (Some here) second closed inputs).0

-- the crate stands at the edge, and the Player has two places: here, and on the target left of it
unfoldable stuck : Script
stuck = pushing (codes "OP*\n")

unfoldable stuck_start : Session
stuck_start = (opening_step stuck).session

-- an object that stands still, by its number
abbrev stands : ℕ → Slot
stands object = Holds (record { 0 = object }) Still

-- the board with the Player and the crate where these slots have them
abbrev board : Slot → Slot → Slot → Grid
board first second third = record {
  width = 3;
  height = 1;
  layers = 4;
  cells = (stands 0 ∷ stands 4 ∷ first ∷ Bare ∷ []) ∷ (stands 0 ∷ Bare ∷ second ∷ Bare ∷ []) ∷ (stands 0 ∷ Bare ∷ third ∷ Bare ∷ []) ∷ [];
}

abbrev at : Grid → Option Spot
at shown = Some (record { board = shown; restart_board = board Bare (stands 2) (stands 3); waits = None })

abbrev here : Option Spot
here = at (board Bare (stands 2) (stands 3))

abbrev at_left : Option Spot
at_left = at (board (stands 2) Bare (stands 3))

start_is_here : spot 0 stuck_start ≡ here
unfolding stuck stuck_start chars digits is_utf8 utf8_valid_len encode group program_run all_start_turns all_key_turns turn opening_step
start_is_here = refl

up_here : given stuck Up here ≡ here
unfolding stuck stuck_start chars digits is_utf8 utf8_valid_len encode group program_run all_start_turns all_key_turns turn opening_step
up_here = refl

down_here : given stuck Down here ≡ here
unfolding stuck stuck_start chars digits is_utf8 utf8_valid_len encode group program_run all_start_turns all_key_turns turn opening_step
down_here = refl

left_here : given stuck Left here ≡ at_left
unfolding stuck stuck_start chars digits is_utf8 utf8_valid_len encode group program_run all_start_turns all_key_turns turn opening_step
left_here = refl

right_here : given stuck Right here ≡ here
unfolding stuck stuck_start chars digits is_utf8 utf8_valid_len encode group program_run all_start_turns all_key_turns turn opening_step
right_here = refl

action_here : given stuck Action here ≡ here
unfolding stuck stuck_start chars digits is_utf8 utf8_valid_len encode group program_run all_start_turns all_key_turns turn opening_step
action_here = refl

up_at_left : given stuck Up at_left ≡ at_left
unfolding stuck stuck_start chars digits is_utf8 utf8_valid_len encode group program_run all_start_turns all_key_turns turn opening_step
up_at_left = refl

down_at_left : given stuck Down at_left ≡ at_left
unfolding stuck stuck_start chars digits is_utf8 utf8_valid_len encode group program_run all_start_turns all_key_turns turn opening_step
down_at_left = refl

left_at_left : given stuck Left at_left ≡ at_left
unfolding stuck stuck_start chars digits is_utf8 utf8_valid_len encode group program_run all_start_turns all_key_turns turn opening_step
left_at_left = refl

right_at_left : given stuck Right at_left ≡ here
unfolding stuck stuck_start chars digits is_utf8 utf8_valid_len encode group program_run all_start_turns all_key_turns turn opening_step
right_at_left = refl

action_at_left : given stuck Action at_left ≡ at_left
unfolding stuck stuck_start chars digits is_utf8 utf8_valid_len encode group program_run all_start_turns all_key_turns turn opening_step
action_at_left = refl

from_here : (input : Input) → (given stuck input here ≡ here) ⊎ (given stuck input here ≡ at_left)
from_here Up = inl up_here
from_here Down = inl down_here
from_here Left = inr left_here
from_here Right = inl right_here
from_here Action = inl action_here

from_left : (input : Input) → (given stuck input at_left ≡ here) ⊎ (given stuck input at_left ≡ at_left)
from_left Up = inr up_at_left
from_left Down = inr down_at_left
from_left Left = inr left_at_left
from_left Right = inl right_at_left
from_left Action = inr action_at_left

never_won : NeverWins stuck 0 stuck_start
never_won = never_by stuck stuck_start here at_left start_is_here (record {
  first_there = refl;
  second_there = refl;
  first_stays = from_here;
  second_stays = from_left;
})
