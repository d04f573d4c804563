-- What undo goes back to makes no difference to any other key.
use Rattle.std.proofs.Common.{◌≡◌, ◌≢◌, ◌∙◌, ℕ, zero, suc, Bool, true, false, Option, Some, None, List, refl, sym, ap}
use Rattle.std.specs.Prelude.{◌||◌}
use Rattle.std.specs.Option.{option_or}
use Rattle.ps_model.specs.declared.limits.TheConstants.{AGAIN_LIMIT}
use Rattle.ps_model.specs.declared.play.Input.{Input}
use Rattle.ps_model.specs.declared.play.Input.TheVariants.{Up, Down, Left, Right, Action}
use Rattle.ps_model.specs.declared.play.Key.{Key}
use Rattle.ps_model.specs.declared.play.Key.TheVariants.{Move, Undo, Restart, Quit}
use Rattle.ps_model.specs.board.Turns.{Script, Done, Outcome, Blocked, Restarted, Finished, turn}
use Rattle.ps_model.specs.session.Sessions.{Play, Pending, Nothing, LevelDone, KeyAgain, StartAgain, Session, Playing}
use Rattle.ps_model.specs.session.Sessions.{Waiting, AtMessage, Ended, Step, seen, with_board, with_board_in_history}
use Rattle.ps_model.specs.session.Sessions.{with_turn}
use Rattle.ps_model.specs.session.StartSteps.{start_told, start_counted, start_turn_by, start_turns}
use Rattle.ps_model.specs.session.StartSteps.{all_start_turns, started, started_by, start_step, restarted}
use Rattle.ps_model.specs.session.KeySteps.{key_told, key_counted, key_turn_by, key_turns, all_key_turns}
use Rattle.ps_model.specs.session.KeySteps.{with_board_in_history_if, turn_taken, input_taken, key_step}
use Rattle.ps_model.specs.session.KeySteps.{unless_ignored, key_in_level, gone_on, key_at_level_message}
use Rattle.ps_session.specs.RestedSessions.{play_without_history, without_history}

-- the step from a level leads to the same place as from the level with nothing to undo
abbrev pub IsIndifferent : (Play → Step) → Type 0
IsIndifferent step = (play : Play) →
    without_history (step play).session ≡ without_history (step (play_without_history play)).session

-- from two levels that differ in what undo goes back to it leads to the same place
from_both : (step : Play → Step) → IsIndifferent step → (one other : Play) →
    play_without_history one ≡ play_without_history other →
    without_history (step one).session ≡ without_history (step other).session
from_both step each one other same =
    each one ∙ ap (λ (play : Play). without_history (step play).session) same ∙ sym (each other)

module _ (script : Script) where
  -- starts ------------------------------------------------------------------------------------------------------------

  start_told-same : (message : Option (List ℕ)) (again : Bool) (left : ℕ) (f : Play → Step) → IsIndifferent f →
      IsIndifferent (λ play. start_told play message again left f)
  start_told-same (Some text) again left f each play = refl
  start_told-same None false left f each play = refl
  start_told-same None true left f each play = each play

  start_counted-same : (done : Done) (left : ℕ) (f : Play → Step) (changed : Bool) → done.changed ≡ changed →
      IsIndifferent f → IsIndifferent (λ play. start_counted script play done left f)
  start_counted-same done left f false e each play = rw (e, start_counted) refl
  start_counted-same done left f true e each play =
      rw (e, start_counted) (start_told-same done.message done.again left f each (seen script (with_turn play done)))

  start_turn_by-same : (left : ℕ) (f : Play → Step) → IsIndifferent f → (outcome : Outcome) →
      IsIndifferent (λ play. start_turn_by script play left f outcome)
  start_turn_by-same left f each (Blocked message) play = refl
  start_turn_by-same left f each (Restarted message) play = refl
  start_turn_by-same left f each (Finished done) play = start_counted-same done left f done.changed refl each play

  start_turns-same : (left : ℕ) → IsIndifferent (start_turns script left)
  start_turns-same zero play = refl
  start_turns-same (suc left) play =
      start_turn_by-same left (start_turns script left) (start_turns-same left) (turn script None play.board) play

  all_start_turns-same : IsIndifferent (all_start_turns script)
  unfolding all_start_turns
  all_start_turns-same play = start_turns-same AGAIN_LIMIT play

  started-same : (message : Option (List ℕ)) (again : Bool) → IsIndifferent (λ play. started script play message again)
  started-same message again play =
      start_told-same message again AGAIN_LIMIT (all_start_turns script) all_start_turns-same (seen script play)

  started_by-same : (message : Option (List ℕ)) (outcome : Outcome) →
      IsIndifferent (λ play. started_by script play message outcome)
  started_by-same message (Blocked own) play = started-same (option_or own message) false play
  started_by-same message (Restarted own) play = started-same (option_or own message) false play
  started_by-same message (Finished done) play =
      started-same (option_or done.message message) done.again (with_turn play done)

  start_step-same : (message : Option (List ℕ)) (runs : Bool) → script.options.run_rules_on_level_start ≡ runs →
      IsIndifferent (λ play. start_step script play message)
  start_step-same message false e play = rw (e, start_step) (started-same message false play)
  start_step-same message true e play =
      rw (e, start_step) (started_by-same message (turn script None play.board) play)

  restarted-same : (message : Option (List ℕ)) → IsIndifferent (λ play. restarted script play message)
  restarted-same message play =
      start_step-same message script.options.run_rules_on_level_start refl (with_board play play.restart_board)

  -- turns of keys -----------------------------------------------------------------------------------------------------

  key_told-same : (done : Done) (left : ℕ) (f : Play → Step) → IsIndifferent f → (message : Option (List ℕ))
      (win again : Bool) → done.message ≡ message → done.win ≡ win → done.again ≡ again →
      IsIndifferent (λ play. key_told script play done left f)
  key_told-same done left f each (Some text) win again m w e play = rw (m, key_told) refl
  key_told-same done left f each None true again m w e play = rw (m, w, key_told) refl
  key_told-same done left f each None false true m w e play = rw (m, w, e, key_told) (each play)
  key_told-same done left f each None false false m w e play = rw (m, w, e, key_told) refl

  framed : (done : Done) (left : ℕ) (f : Play → Step) → IsIndifferent f →
      IsIndifferent (λ play. key_told script (seen script (with_turn play done)) done left f)
  framed done left f each play =
      key_told-same done left f each done.message done.win done.again refl refl refl
      (seen script (with_turn play done))

  key_counted-same : (done : Done) (left : ℕ) (f : Play → Step) → IsIndifferent f → (counts : Bool) →
      (done.changed || done.win) ≡ counts → IsIndifferent (λ play. key_counted script play done left f)
  key_counted-same done left f each false e play = rw (e, key_counted) refl
  key_counted-same done left f each true e play = rw (e, key_counted) (framed done left f each play)

  key_turn_by-same : (left : ℕ) (f : Play → Step) → IsIndifferent f → (outcome : Outcome) →
      IsIndifferent (λ play. key_turn_by script play left f outcome)
  key_turn_by-same left f each (Blocked message) play = refl
  key_turn_by-same left f each (Restarted message) play = restarted-same message play
  key_turn_by-same left f each (Finished done) play =
      key_counted-same done left f each (done.changed || done.win) refl play

  key_turns-same : (left : ℕ) → IsIndifferent (key_turns script left)
  key_turns-same zero play = refl
  key_turns-same (suc left) play =
      key_turn_by-same left (key_turns script left) (key_turns-same left) (turn script None play.board) play

  all_key_turns-same : IsIndifferent (all_key_turns script)
  unfolding all_key_turns
  all_key_turns-same play = key_turns-same AGAIN_LIMIT play

  -- keys --------------------------------------------------------------------------------------------------------------

  -- the board that enters the history makes no difference
  restarted_in_history : (message : Option (List ℕ)) →
      IsIndifferent (λ play. restarted script (with_board_in_history play) message)
  restarted_in_history message play =
      from_both (λ here. restarted script here message) (restarted-same message) (with_board_in_history play)
      (with_board_in_history (play_without_history play)) refl

  framed_in_history : (done : Done) (changed : Bool) → IsIndifferent (λ play. key_told script
      (seen script (with_turn (with_board_in_history_if changed play) done)) done AGAIN_LIMIT (all_key_turns script))
  framed_in_history done false play = framed done AGAIN_LIMIT (all_key_turns script) all_key_turns-same play
  framed_in_history done true play =
      from_both (λ here. key_told script (seen script (with_turn here done)) done AGAIN_LIMIT (all_key_turns script))
      (framed done AGAIN_LIMIT (all_key_turns script) all_key_turns-same) (with_board_in_history play)
      (with_board_in_history (play_without_history play)) refl

  turn_taken-same : (outcome : Outcome) → IsIndifferent (λ play. turn_taken script play outcome)
  turn_taken-same (Blocked None) play = refl
  turn_taken-same (Blocked (Some text)) play = refl
  turn_taken-same (Restarted message) play = restarted_in_history message play
  turn_taken-same (Finished done) play = framed_in_history done done.changed play

  input_taken-same : (input : Input) → IsIndifferent (λ play. input_taken script play input)
  input_taken-same input play = turn_taken-same (turn script (Some input) play.board) play

  unless_ignored-same : (ignored : Bool) (f : Play → Step) → IsIndifferent f →
      IsIndifferent (λ play. unless_ignored ignored play f)
  unless_ignored-same true f each play = refl
  unless_ignored-same false f each play = each play

  in_level : (key : Key) → key ≢ Undo → IsIndifferent (λ play. key_in_level script play key)
  in_level (Move Up) other play = input_taken-same Up play
  in_level (Move Down) other play = input_taken-same Down play
  in_level (Move Left) other play = input_taken-same Left play
  in_level (Move Right) other play = input_taken-same Right play
  in_level (Move Action) other play =
      unless_ignored-same script.options.no_action (λ here. input_taken script here Action) (input_taken-same Action)
      play
  in_level Undo other play = absurd (other refl)
  in_level Restart other play =
      unless_ignored-same script.options.no_restart
      (λ here. restarted script (with_board_in_history here) None) (restarted_in_history None) play
  in_level Quit other play = refl

  gone_on-same : (pending : Pending) → IsIndifferent (λ play. gone_on script play pending)
  gone_on-same Nothing play = refl
  gone_on-same LevelDone play = refl
  gone_on-same (KeyAgain left) play = key_turns-same left play
  gone_on-same (StartAgain left) play = start_turns-same left play

  at_message : (pending : Pending) (key : Key) → IsIndifferent (λ play. key_at_level_message script play pending key)
  at_message pending (Move Up) play = refl
  at_message pending (Move Down) play = refl
  at_message pending (Move Left) play = refl
  at_message pending (Move Right) play = refl
  at_message pending (Move Action) play = gone_on-same pending play
  at_message pending Undo play = refl
  at_message pending Restart play = refl
  at_message pending Quit play = refl

  -- a key in a session with nothing to undo leads to the same place, unless it takes back
  key_step-same : (session : Session) (key : Key) → key ≢ Undo →
      without_history (key_step script session key).session
      ≡ without_history (key_step script (without_history session) key).session
  key_step-same (Playing play) key other = in_level key other play
  key_step-same (Waiting play pending) key other = at_message pending key play
  key_step-same (AtMessage entry) key other = refl
  key_step-same (Ended ending) key other = refl

  -- so do sessions that differ in nothing else
  pub keys_go_alike : (session other : Session) (key : Key) → key ≢ Undo →
      without_history session ≡ without_history other →
      without_history (key_step script session key).session ≡ without_history (key_step script other key).session
  keys_go_alike session other key no_undo same =
      key_step-same session key no_undo
      ∙ ap (λ (s : Session). without_history (key_step script s key).session) same
      ∙ sym (key_step-same other key no_undo)
