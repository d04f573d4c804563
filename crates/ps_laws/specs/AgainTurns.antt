-- Again turns, those of a key and those of the start of a level: the longest list of turns that count, of no more than
-- a limit, which a message cuts. Each has a frame; what comes after the last one is said by that one, or by the turn
-- that doesn't count.
use Rattle.std.specs.Prelude.{◌≡◌, ℕ, zero, suc, ◌-◌, ◌≤◌, ◌⊎◌, Bool, true, ◌&&◌, ◌||◌, not, is_none}
use Rattle.std.specs.Prelude.{None, List, [], ◌∷◌, length, ⊤}
use Rattle.ps_model.specs.declared.limits.TheConstants.{AGAIN_LIMIT}
use Rattle.ps_model.specs.board.Grid.{Grid}
use Rattle.ps_model.specs.board.Turns.{Script, Done, Outcome, Blocked, Restarted, Finished, turn}
use Rattle.ps_model.specs.session.Sessions.{Play, Playing, Step, quietly, after, seen, shown, with_turn}
use Rattle.ps_model.specs.session.StartSteps.{start_told, start_turns, all_start_turns, restarted}
use Rattle.ps_model.specs.session.KeySteps.{key_told, key_turns, all_key_turns}

-- lists of turns ------------------------------------------------------------------------------------------------------

-- a turn of a key counts if it changed the board or won
abbrev pub counts_for_key : Done → Bool
counts_for_key done = done.changed || done.win

-- after a turn of a key another is due: it is to come again, no message waits, and the level isn't won
abbrev pub goes_on_for_key : Done → Bool
goes_on_for_key done = is_none done.message && (not done.win && done.again)

-- a turn of a start counts if it changed the board
abbrev pub counts_for_start : Done → Bool
counts_for_start done = done.changed

-- after a turn of a start another is due: it is to come again, and no message waits
abbrev pub goes_on_for_start : Done → Bool
goes_on_for_start done = is_none done.message && done.again

-- turns without input from a board on, one after the other: all of them count, and after each but the last another is
-- due
abbrev pub Follow : (Done → Bool) → (Done → Bool) → Script → Grid → List Done → Type 0
Follow counts goes_on script board [] = ⊤
Follow counts goes_on script board (done ∷ others) =
    (turn script None board ≡ Finished done) × (counts done ≡ true) × ((others ≡ []) ⊎ (goes_on done ≡ true)) × Follow
    counts goes_on script done.board others

-- they are no more than the limit, and no such list is longer
pub record IsLongest (counts goes_on : Done → Bool) (script : Script) (limit : ℕ) (board : Grid) (dones : List Done) :
    Type 0 where
  pub follow : Follow counts goes_on script board dones
  pub few : length dones ≤ limit
  pub longest : (others : List Done) → Follow counts goes_on script board others → length others ≤ limit →
      length others ≤ length dones

-- what they bring -----------------------------------------------------------------------------------------------------

-- what turns bring, of which a number is left: each its frame and what is told after it, and the last what comes where
-- they stop
abbrev pub turns_told : (Play → Done → ℕ → (Play → Step) → Step) → (ℕ → Play → Step) → Script → List Done → ℕ → Play →
    Step
turns_told told stop script [] left play = stop left play
turns_told told stop script (done ∷ others) left play =
    let next : Play = seen script (with_turn play done) in
    after (shown script next) (told next done (left - 1) (turns_told told stop script others (left - 1)))

-- what comes of an again turn of a key that doesn't count: nothing, but that a restart restarts the level
abbrev pub key_stopped : Script → Play → Outcome → Step
key_stopped script play (Blocked message) = quietly (Playing play)
key_stopped script play (Restarted message) = restarted script play message
key_stopped script play (Finished done) = quietly (Playing play)

-- where the again turns of a key stop: none is left, or the next one doesn't count
abbrev pub key_stop : Script → ℕ → Play → Step
key_stop script zero play = quietly (Playing play)
key_stop script (suc left) play = key_stopped script play (turn script None play.board)

-- where those of a start stop
abbrev pub start_stop : ℕ → Play → Step
start_stop left play = quietly (Playing play)

-- what is told after a turn of a start
abbrev pub told_at_start : Play → Done → ℕ → (Play → Step) → Step
told_at_start play done left again_turns = start_told play done.message done.again left again_turns

-- laws ----------------------------------------------------------------------------------------------------------------

-- the again turns of a key are those of the longest list
abbrev pub KeyTurnsAreLongest : Type 0
KeyTurnsAreLongest = (script : Script) (limit : ℕ) (play : Play) →
    (dones : List Done) × IsLongest counts_for_key goes_on_for_key script limit play.board dones
    × (key_turns script limit play ≡ turns_told (key_told script) (key_stop script) script dones limit play)

-- so are those of a start
abbrev pub StartTurnsAreLongest : Type 0
StartTurnsAreLongest = (script : Script) (limit : ℕ) (play : Play) →
    (dones : List Done) × IsLongest counts_for_start goes_on_for_start script limit play.board dones
    × (start_turns script limit play ≡ turns_told told_at_start start_stop script dones limit play)

-- and of all again turns there are no more than their limit
abbrev pub AllKeyTurnsAreLongest : Type 0
AllKeyTurnsAreLongest = (script : Script) (play : Play) →
    (dones : List Done) × IsLongest counts_for_key goes_on_for_key script AGAIN_LIMIT play.board dones
    × (all_key_turns script play ≡ turns_told (key_told script) (key_stop script) script dones AGAIN_LIMIT play)

-- nor of those of a start
abbrev pub AllStartTurnsAreLongest : Type 0
AllStartTurnsAreLongest = (script : Script) (play : Play) →
    (dones : List Done) × IsLongest counts_for_start goes_on_for_start script AGAIN_LIMIT play.board dones
    × (all_start_turns script play ≡ turns_told told_at_start start_stop script dones AGAIN_LIMIT play)
