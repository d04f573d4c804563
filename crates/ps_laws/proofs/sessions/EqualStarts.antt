-- Scripts with equal turns start levels alike.
use Rattle.std.proofs.Common.{◌≡◌, ℕ, zero, suc, Bool, true, false, Option, Some, None, List, slice_get, refl}
use Rattle.std.specs.Option.{option_or}
use Rattle.std.proofs.lemmas.List.Elements.{All-nil}
use Rattle.ps_model.specs.declared.limits.TheConstants.{AGAIN_LIMIT}
use Rattle.ps_model.specs.board.Grid.{Grid}
use Rattle.ps_model.specs.board.Programs.{Section}
use Rattle.ps_model.specs.board.Turns.{Script, Done, Outcome, Blocked, Restarted, Finished, turn}
use Rattle.ps_model.specs.session.LevelLines.{Entry, MessageEntry, LevelEntry}
use Rattle.ps_model.specs.session.Sessions.{Play, Step, seen, shown, level_line, done_line, with_board, with_turn}
use Rattle.ps_model.specs.session.StartSteps.{start_told, start_counted, start_turn_by, start_turns, all_start_turns}
use Rattle.ps_model.specs.session.StartSteps.{started, started_by, start_step, fresh, entered, enter, level_done}
use Rattle.ps_model.specs.session.StartSteps.{restarted}
use Rattle.ps_laws.specs.SessionBoards.{AreBoards, HasBoard}
use Rattle.ps_laws.specs.AlikeScripts.{EqualSteps}
use Rattle.ps_laws.proofs.common.Everywhere.{All-slice_get}
use Rattle.ps_laws.proofs.sessions.EqualSteps.{with_rules, LoadsAs, EqualTurns, FromLevels, after-equal, by_outcome}
use Rattle.ps_laws.proofs.sessions.EqualSteps.{with_turn-boards, seen-boards, with_restart_board-boards}

module _ (IsSuch : Grid → Type 0) (a : Script) (plain late : List Section)
    (both : EqualTurns IsSuch a (with_rules a plain late)) where
  -- the script with other rules
  abbrev b : Script
  b = with_rules a plain late

  -- again turns -------------------------------------------------------------------------------------------------------

  told : (message : Option (List ℕ)) (again : Bool) (left : ℕ) (f g : Play → Step) → FromLevels IsSuch f g →
      (play : Play) → AreBoards IsSuch play →
      EqualSteps IsSuch (start_told play message again left f) (start_told play message again left g)
  told (Some text) again left f g each play h = record { equal = refl; boards = h }
  told None false left f g each play h = record { equal = refl; boards = h }
  told None true left f g each play h = each play h

  counted : (play : Play) (done : Done) (left : ℕ) (f g : Play → Step) (changed : Bool) → done.changed ≡ changed →
      FromLevels IsSuch f g → AreBoards IsSuch play → IsSuch done.board →
      EqualSteps IsSuch (start_counted a play done left f) (start_counted b play done left g)
  counted play done left f g false e each h board = rw (e, start_counted) (record { equal = refl; boards = h })
  counted play done left f g true e each h board =
      let next : Play = seen a (with_turn play done) in
      rw (e, start_counted) (after-equal IsSuch (shown a next) (start_told next done.message done.again left f)
      (start_told next done.message done.again left g)
      (told done.message done.again left f g each next
      (seen-boards IsSuch a (with_turn play done) (with_turn-boards IsSuch play done h board))))

  turn_by : (play : Play) (left : ℕ) (f g : Play → Step) → FromLevels IsSuch f g → AreBoards IsSuch play →
      (outcome : Outcome) → HasBoard IsSuch outcome →
      EqualSteps IsSuch (start_turn_by a play left f outcome) (start_turn_by b play left g outcome)
  turn_by play left f g each h (Blocked message) board = record { equal = refl; boards = h }
  turn_by play left f g each h (Restarted message) board = record { equal = refl; boards = h }
  turn_by play left f g each h (Finished done) board = counted play done left f g done.changed refl each h board

  pub start_turns-equal : (left : ℕ) → FromLevels IsSuch (start_turns a left) (start_turns b left)
  start_turns-equal zero play h = record { equal = refl; boards = h }
  start_turns-equal (suc left) play h =
      by_outcome IsSuch (turn a None play.board) (turn b None play.board) (both.turns None play.board h.board)
      (start_turn_by a play left (start_turns a left)) (start_turn_by b play left (start_turns b left))
      (turn_by play left (start_turns a left) (start_turns b left) (start_turns-equal left) h)

  all_start_turns-equal : FromLevels IsSuch (all_start_turns a) (all_start_turns b)
  unfolding all_start_turns
  all_start_turns-equal play h = start_turns-equal AGAIN_LIMIT play h

  -- starts ------------------------------------------------------------------------------------------------------------

  started-equal : (message : Option (List ℕ)) (again : Bool) (play : Play) → AreBoards IsSuch play →
      EqualSteps IsSuch (started a play message again) (started b play message again)
  started-equal message again play h =
      let next : Play = seen a play in
      after-equal IsSuch (shown a next) (start_told next message again AGAIN_LIMIT (all_start_turns a))
      (start_told next message again AGAIN_LIMIT (all_start_turns b))
      (told message again AGAIN_LIMIT (all_start_turns a) (all_start_turns b) all_start_turns-equal next
      (seen-boards IsSuch a play h))

  started_by-equal : (play : Play) (message : Option (List ℕ)) → AreBoards IsSuch play → (outcome : Outcome) →
      HasBoard IsSuch outcome →
      EqualSteps IsSuch (started_by a play message outcome) (started_by b play message outcome)
  started_by-equal play message h (Blocked own) board = started-equal (option_or own message) false play h
  started_by-equal play message h (Restarted own) board = started-equal (option_or own message) false play h
  started_by-equal play message h (Finished done) board =
      started-equal (option_or done.message message) done.again (with_turn play done)
      (with_turn-boards IsSuch play done h board)

  start_step-equal : (play : Play) (message : Option (List ℕ)) (runs : Bool) →
      a.options.run_rules_on_level_start ≡ runs → AreBoards IsSuch play →
      EqualSteps IsSuch (start_step a play message) (start_step b play message)
  start_step-equal play message false e h = rw (e, start_step) (started-equal message false play h)
  start_step-equal play message true e h =
      rw (e, start_step) (by_outcome IsSuch (turn a None play.board) (turn b None play.board)
      (both.turns None play.board h.board) (started_by a play message) (started_by b play message)
      (started_by-equal play message h))

  -- entries -----------------------------------------------------------------------------------------------------------

  entered-equal : (entry : ℕ) (found : Option Entry) → slice_get a.entries entry ≡ found →
      EqualSteps IsSuch (entered a entry found) (entered b entry found)
  entered-equal entry None e = record { equal = refl; boards = tt }
  entered-equal entry (Some (MessageEntry text)) e = record { equal = refl; boards = tt }
  entered-equal entry (Some (LevelEntry level)) e =
      let play : Play = fresh a entry level in
      let board : IsSuch play.board = All-slice_get (LoadsAs IsSuch a.names) a.entries entry (LevelEntry level)
      both.levels e in
      after-equal IsSuch (level_line a entry) (start_step a play None) (start_step b play None)
      (start_step-equal play None a.options.run_rules_on_level_start refl
      (record { board = board; history = All-nil IsSuch; restart_board = board }))

  pub enter-equal : (entry : ℕ) → EqualSteps IsSuch (enter a entry) (enter b entry)
  enter-equal entry = entered-equal entry (slice_get a.entries entry) refl

  pub level_done-equal : (play : Play) → EqualSteps IsSuch (level_done a play) (level_done b play)
  level_done-equal play = after-equal IsSuch (done_line a play.entry) (enter a (suc play.entry))
      (enter b (suc play.entry)) (enter-equal (suc play.entry))

  pub restarted-equal : (message : Option (List ℕ)) (play : Play) → AreBoards IsSuch play →
      EqualSteps IsSuch (restarted a play message) (restarted b play message)
  restarted-equal message play h = start_step-equal (with_board play play.restart_board) message
      a.options.run_rules_on_level_start refl (with_restart_board-boards IsSuch play h)
