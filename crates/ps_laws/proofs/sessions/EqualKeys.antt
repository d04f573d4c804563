-- Scripts with equal turns do the same at each key.
use Rattle.std.proofs.Common.{◌≡◌, ℕ, zero, suc, ◌-◌, Bool, true, false, Option, Some, None, List, length, slice_get}
use Rattle.std.proofs.Common.{refl}
use Rattle.std.specs.Prelude.{◌||◌}
use Rattle.ps_model.specs.declared.limits.TheConstants.{AGAIN_LIMIT}
use Rattle.ps_model.specs.declared.play.Input.{Input}
use Rattle.ps_model.specs.declared.play.Input.TheVariants.{Up, Down, Left, Right, Action}
use Rattle.ps_model.specs.declared.play.Key.{Key}
use Rattle.ps_model.specs.declared.play.Key.TheVariants.{Move, Undo, Restart, Quit}
use Rattle.ps_model.specs.board.Grid.{Grid}
use Rattle.ps_model.specs.board.Programs.{Section}
use Rattle.ps_model.specs.board.Turns.{Script, Done, Outcome, Blocked, Restarted, Finished, turn}
use Rattle.ps_model.specs.session.Sessions.{Play, Pending, Nothing, LevelDone, KeyAgain, StartAgain, Session, Playing}
use Rattle.ps_model.specs.session.Sessions.{Waiting, AtMessage, Ended, Step, after, seen, shown, with_board_in_history}
use Rattle.ps_model.specs.session.Sessions.{with_turn}
use Rattle.ps_model.specs.session.StartSteps.{level_done, restarted}
use Rattle.ps_model.specs.session.KeySteps.{key_told, key_counted, key_turn_by, key_turns, all_key_turns}
use Rattle.ps_model.specs.session.KeySteps.{with_board_in_history_if, turn_taken, input_taken, undone, unless_ignored}
use Rattle.ps_model.specs.session.KeySteps.{key_in_level, gone_on, key_at_level_message, key_at_entry, key_step}
use Rattle.ps_laws.specs.SessionBoards.{AreBoards, AreBoardsIn, HasBoard}
use Rattle.ps_laws.specs.AlikeScripts.{EqualSteps}
use Rattle.ps_laws.proofs.sessions.EqualSteps.{with_rules, EqualTurns, FromLevels, after-equal, by_outcome}
use Rattle.ps_laws.proofs.sessions.EqualSteps.{with_turn-boards, seen-boards, with_board_in_history-boards}
use Rattle.ps_laws.proofs.sessions.EqualSteps.{with_board_in_history_if-boards, back_at-boards}
use Rattle.ps_laws.proofs.sessions.EqualStarts.{start_turns-equal, enter-equal, level_done-equal, restarted-equal}

module _ (IsSuch : Grid → Type 0) (a : Script) (plain late : List Section)
    (both : EqualTurns IsSuch a (with_rules a plain late)) where
  -- the script with other rules
  abbrev b : Script
  b = with_rules a plain late

  level_done_too : (play : Play) → EqualSteps IsSuch (level_done a play) (level_done b play)
  level_done_too play = level_done-equal IsSuch a plain late both play

  restarted_too : (message : Option (List ℕ)) (play : Play) → AreBoards IsSuch play →
      EqualSteps IsSuch (restarted a play message) (restarted b play message)
  restarted_too message play h = restarted-equal IsSuch a plain late both message play h

  -- again turns -------------------------------------------------------------------------------------------------------

  told : (next : Play) (done : Done) (left : ℕ) (f g : Play → Step) → FromLevels IsSuch f g → AreBoards IsSuch next →
      (message : Option (List ℕ)) (win again : Bool) → done.message ≡ message → done.win ≡ win → done.again ≡ again →
      EqualSteps IsSuch (key_told a next done left f) (key_told b next done left g)
  told next done left f g each h (Some text) win again m w e = rw (m, key_told) (record { equal = refl; boards = h })
  told next done left f g each h None true again m w e = rw (m, w, key_told) (level_done_too next)
  told next done left f g each h None false true m w e = rw (m, w, e, key_told) (each next h)
  told next done left f g each h None false false m w e = rw (m, w, e, key_told) (record { equal = refl; boards = h })

  -- the frame of a turn, and what is told after it
  framed : (next : Play) (done : Done) (left : ℕ) (f g : Play → Step) → FromLevels IsSuch f g → AreBoards IsSuch next →
      EqualSteps IsSuch (after (shown a next) (key_told a next done left f))
      (after (shown b next) (key_told b next done left g))
  framed next done left f g each h =
      after-equal IsSuch (shown a next) (key_told a next done left f) (key_told b next done left g)
      (told next done left f g each h done.message done.win done.again refl refl refl)

  counted : (play : Play) (done : Done) (left : ℕ) (f g : Play → Step) (counts : Bool) →
      (done.changed || done.win) ≡ counts → FromLevels IsSuch f g → AreBoards IsSuch play → IsSuch done.board →
      EqualSteps IsSuch (key_counted a play done left f) (key_counted b play done left g)
  counted play done left f g false e each h board = rw (e, key_counted) (record { equal = refl; boards = h })
  counted play done left f g true e each h board =
      rw (e, key_counted) (framed (seen a (with_turn play done)) done left f g each
      (seen-boards IsSuch a (with_turn play done) (with_turn-boards IsSuch play done h board)))

  turn_by : (play : Play) (left : ℕ) (f g : Play → Step) → FromLevels IsSuch f g → AreBoards IsSuch play →
      (outcome : Outcome) → HasBoard IsSuch outcome →
      EqualSteps IsSuch (key_turn_by a play left f outcome) (key_turn_by b play left g outcome)
  turn_by play left f g each h (Blocked message) board = record { equal = refl; boards = h }
  turn_by play left f g each h (Restarted message) board = restarted_too message play h
  turn_by play left f g each h (Finished done) board =
      counted play done left f g (done.changed || done.win) refl each h board

  key_turns-equal : (left : ℕ) → FromLevels IsSuch (key_turns a left) (key_turns b left)
  key_turns-equal zero play h = record { equal = refl; boards = h }
  key_turns-equal (suc left) play h =
      by_outcome IsSuch (turn a None play.board) (turn b None play.board) (both.turns None play.board h.board)
      (key_turn_by a play left (key_turns a left)) (key_turn_by b play left (key_turns b left))
      (turn_by play left (key_turns a left) (key_turns b left) (key_turns-equal left) h)

  all_key_turns-equal : FromLevels IsSuch (all_key_turns a) (all_key_turns b)
  unfolding all_key_turns
  all_key_turns-equal play h = key_turns-equal AGAIN_LIMIT play h

  -- a key's own turn --------------------------------------------------------------------------------------------------

  taken : (play : Play) → AreBoards IsSuch play → (outcome : Outcome) → HasBoard IsSuch outcome →
      EqualSteps IsSuch (turn_taken a play outcome) (turn_taken b play outcome)
  taken play h (Blocked None) board = record { equal = refl; boards = h }
  taken play h (Blocked (Some text)) board = record { equal = refl; boards = h }
  taken play h (Restarted message) board = restarted_too message (with_board_in_history play)
      (with_board_in_history-boards IsSuch play h)
  taken play h (Finished done) board =
      let kept : Play = with_board_in_history_if done.changed play in
      framed (seen a (with_turn kept done)) done AGAIN_LIMIT (all_key_turns a) (all_key_turns b) all_key_turns-equal
      (seen-boards IsSuch a (with_turn kept done)
      (with_turn-boards IsSuch kept done (with_board_in_history_if-boards IsSuch done.changed play h) board))

  input_taken-equal : (play : Play) (input : Input) → AreBoards IsSuch play →
      EqualSteps IsSuch (input_taken a play input) (input_taken b play input)
  input_taken-equal play input h =
      by_outcome IsSuch (turn a (Some input) play.board) (turn b (Some input) play.board)
      (both.turns (Some input) play.board h.board) (turn_taken a play) (turn_taken b play) (taken play h)

  -- keys --------------------------------------------------------------------------------------------------------------

  undone-equal : (play : Play) → AreBoards IsSuch play → EqualSteps IsSuch (undone a play) (undone b play)
  undone-equal play h = record {
    equal = refl;
    boards =
        back_at-boards IsSuch a play (slice_get play.history (length play.history - 1)) refl h;
  }

  ignored_or : (ignored : Bool) (play : Play) (f g : Play → Step) → FromLevels IsSuch f g → AreBoards IsSuch play →
      EqualSteps IsSuch (unless_ignored ignored play f) (unless_ignored ignored play g)
  ignored_or true play f g each h = record { equal = refl; boards = h }
  ignored_or false play f g each h = each play h

  in_level : (play : Play) (key : Key) → AreBoards IsSuch play →
      EqualSteps IsSuch (key_in_level a play key) (key_in_level b play key)
  in_level play (Move Up) h = input_taken-equal play Up h
  in_level play (Move Down) h = input_taken-equal play Down h
  in_level play (Move Left) h = input_taken-equal play Left h
  in_level play (Move Right) h = input_taken-equal play Right h
  in_level play (Move Action) h =
      ignored_or a.options.no_action play (λ here. input_taken a here Action) (λ here.
      input_taken b here Action) (λ here boards. input_taken-equal here Action boards) h
  in_level play Undo h = ignored_or a.options.no_undo play (undone a) (undone b) undone-equal h
  in_level play Restart h =
      ignored_or a.options.no_restart play (λ here. restarted a (with_board_in_history here) None) (λ here.
      restarted b (with_board_in_history here) None)
      (λ here boards. restarted_too None (with_board_in_history here)
      (with_board_in_history-boards IsSuch here boards)) h
  in_level play Quit h = record { equal = refl; boards = tt }

  gone_on-equal : (play : Play) (pending : Pending) → AreBoards IsSuch play →
      EqualSteps IsSuch (gone_on a play pending) (gone_on b play pending)
  gone_on-equal play Nothing h = record { equal = refl; boards = h }
  gone_on-equal play LevelDone h = level_done_too play
  gone_on-equal play (KeyAgain left) h = key_turns-equal left play h
  gone_on-equal play (StartAgain left) h = start_turns-equal IsSuch a plain late both left play h

  at_level_message : (play : Play) (pending : Pending) (key : Key) → AreBoards IsSuch play →
      EqualSteps IsSuch (key_at_level_message a play pending key) (key_at_level_message b play pending key)
  at_level_message play pending (Move Action) h = gone_on-equal play pending h
  at_level_message play pending Quit h = record { equal = refl; boards = tt }
  at_level_message play pending _ h = record { equal = refl; boards = h }

  at_entry : (entry : ℕ) (key : Key) → EqualSteps IsSuch (key_at_entry a entry key) (key_at_entry b entry key)
  at_entry entry (Move Action) = enter-equal IsSuch a plain late both (suc entry)
  at_entry entry Quit = record { equal = refl; boards = tt }
  at_entry entry _ = record { equal = refl; boards = tt }

  -- a key, in any session
  pub key_step-equal : (session : Session) (key : Key) → AreBoardsIn IsSuch session →
      EqualSteps IsSuch (key_step a session key) (key_step b session key)
  key_step-equal (Playing play) key h = in_level play key h
  key_step-equal (Waiting play pending) key h = at_level_message play pending key h
  key_step-equal (AtMessage entry) key h = at_entry entry key
  key_step-equal (Ended ending) key h = record { equal = refl; boards = tt }
