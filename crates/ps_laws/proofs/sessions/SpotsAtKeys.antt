-- Levels at one spot go on alike at each input.
use Rattle.std.proofs.Common.{◌≡◌, ◌<◌, ◌⊎◌, inl, inr, ℕ, zero, suc, Bool, true, false, Option, Some, None, List, slice_get, refl}
use Rattle.std.proofs.Common.{arith}
use Rattle.std.specs.Prelude.{◌==◌, ◌||◌, nat_lt}
use Rattle.std.proofs.lemmas.Bool.Decides.{nat_tests}
use Rattle.ps_model.specs.declared.limits.TheConstants.{AGAIN_LIMIT}
use Rattle.ps_model.specs.declared.play.Input.{Input}
use Rattle.ps_model.specs.declared.play.Input.TheVariants.{Up, Down, Left, Right, Action}
use Rattle.ps_model.specs.declared.play.Key.TheVariants.{Move}
use Rattle.ps_model.specs.session.LevelLines.{Entry, MessageEntry, LevelEntry}
use Rattle.ps_model.specs.board.Turns.{Script, Done, Outcome, Blocked, Restarted, Finished}
use Rattle.ps_model.specs.session.Sessions.{Play, Pending, Nothing, LevelDone, KeyAgain, StartAgain, Session, Playing}
use Rattle.ps_model.specs.session.Sessions.{Waiting, AtMessage, Ended, Step, seen, with_board_in_history, with_turn}
use Rattle.ps_model.specs.session.StartSteps.{fresh, entered, enter, level_done}
use Rattle.ps_model.specs.session.KeySteps.{key_pending, key_told, key_counted, key_turn_by, key_turns, all_key_turns}
use Rattle.ps_model.specs.session.KeySteps.{with_board_in_history_if, turn_taken, input_taken}
use Rattle.ps_model.specs.session.KeySteps.{unless_ignored, key_in_level, gone_on, key_at_level_message}
use Rattle.ps_model.specs.session.Solving.{Spot, spot_of, spot, is_past}
use Rattle.ps_laws.proofs.sessions.SpotsAtStarts.{AtOneSpot, Both, both_play, both_wait, seen_alike, turned_alike}
use Rattle.ps_laws.proofs.sessions.SpotsAtStarts.{by_same_turn, start_turns-stay, start_step-stay, restarted-stay}

-- both sessions are at one spot of the level, or past it
abbrev pub Alike : ℕ → Session → Session → Type 0
Alike entry first second = Both entry first second ⊎ ((is_past entry first ≡ true) × (is_past entry second ≡ true))

-- the steps from levels at one spot lead to sessions that are alike
abbrev pub GoAlike : ℕ → (Play → Step) → Type 0
GoAlike entry step =
    (first second : Play) → AtOneSpot entry first second → Alike entry (step first).session (step second).session

-- past a level ----------------------------------------------------------------------------------------------------------

spot_is_at : (at : ℕ) (play : Play) (waits : Option Pending) (here : Spot) (b : Bool) → (play.entry == at) ≡ b → spot_of b play waits ≡ Some here → play.entry ≡ at
spot_is_at at play waits here true e h = grind (arith, nat_tests)
spot_is_at at play waits here false e h = cc

later_entry : (entry at : ℕ) (play : Play) → play.entry ≡ at → entry < at → nat_lt entry play.entry ≡ true
later_entry entry at play e h = grind (arith, nat_tests)

-- who is in a later level is past this one
pub later_is_past : (entry at : ℕ) (session : Session) (here : Spot) → spot at session ≡ Some here → entry < at → is_past entry session ≡ true
later_is_past entry at (Playing play) here e h = later_entry entry at play (spot_is_at at play None here (play.entry == at) refl e) h
later_is_past entry at (Waiting play pending) here e h = later_entry entry at play (spot_is_at at play (Some pending) here (play.entry == at) refl e) h
later_is_past entry at (AtMessage place) here e h = cc
later_is_past entry at (Ended ending) here e h = cc

further : (entry at place : ℕ) → entry < at → nat_lt at place ≡ true → nat_lt entry place ≡ true
further entry at place h e = grind (arith, nat_tests)

-- who is past a later entry is past this one
pub past_later : (entry at : ℕ) (session : Session) → entry < at → is_past at session ≡ true → is_past entry session ≡ true
past_later entry at (Playing play) h e = further entry at play.entry h e
past_later entry at (Waiting play pending) h e = further entry at play.entry h e
past_later entry at (AtMessage place) h e = further entry at place h e
past_later entry at (Ended ending) h e = refl

pub same_level : (play : Play) → AtOneSpot play.entry play play
same_level play = record { first_entry = refl; second_entry = refl; board = refl; restart_board = refl }

module _ (script : Script) (entry : ℕ) where
  entered_past : (at : ℕ) → entry < at → (found : Option Entry) → is_past entry (entered script at found).session ≡ true
  entered_past at h None = refl
  entered_past at h (Some (MessageEntry text)) = grind (arith, nat_tests)
  entered_past at h (Some (LevelEntry level)) =
      let play : Play = fresh script at level in
      let stays = start_step-stay script at None script.options.run_rules_on_level_start refl play play (same_level play) in
      later_is_past entry at _ stays.0 stays.1 h

  -- the entry at a later place is past this one
  pub enter_past : (at : ℕ) → entry < at → is_past entry (enter script at).session ≡ true
  enter_past at h = entered_past at h (slice_get script.entries at)

  level_done-past : (play : Play) → play.entry ≡ entry → is_past entry (level_done script play).session ≡ true
  level_done-past play e = enter_past (suc play.entry) (omega arith)

  level_done-alike : GoAlike entry (level_done script)
  level_done-alike first second h = inr (level_done-past first h.first_entry, level_done-past second h.second_entry)

  -- again turns ---------------------------------------------------------------------------------------------------------

  told : (done : Done) (left : ℕ) (f : Play → Step) → GoAlike entry f → (message : Option (List ℕ)) (win again : Bool) →
      done.message ≡ message → done.win ≡ win → done.again ≡ again →
      GoAlike entry (λ play. key_told script play done left f)
  told done left f each (Some text) win again m w e first second h =
      rw (m, key_told) (inl (both_wait entry first second h (key_pending done.win done.again left)))
  told done left f each None true again m w e first second h = rw (m, w, key_told) (level_done-alike first second h)
  told done left f each None false true m w e first second h = rw (m, w, e, key_told) (each first second h)
  told done left f each None false false m w e first second h = rw (m, w, e, key_told) (inl (both_play entry first second h))

  -- what is told after the frame of a turn
  framed : (done : Done) (left : ℕ) (f : Play → Step) → GoAlike entry f →
      GoAlike entry (λ play. key_told script (seen script (with_turn play done)) done left f)
  framed done left f each first second h =
      told done left f each done.message done.win done.again refl refl refl (seen script (with_turn first done))
      (seen script (with_turn second done))
      (seen_alike entry (with_turn first done) (with_turn second done) (turned_alike entry first second h done) script)

  counted : (done : Done) (left : ℕ) (f : Play → Step) → GoAlike entry f → (counts : Bool) →
      (done.changed || done.win) ≡ counts → GoAlike entry (λ play. key_counted script play done left f)
  counted done left f each false e first second h = rw (e, key_counted) (inl (both_play entry first second h))
  counted done left f each true e first second h = rw (e, key_counted) (framed done left f each first second h)

  turn_by : (left : ℕ) (f : Play → Step) → GoAlike entry f → (first second : Play) → AtOneSpot entry first second →
      (outcome : Outcome) →
      Alike entry (key_turn_by script first left f outcome).session (key_turn_by script second left f outcome).session
  turn_by left f each first second h (Blocked message) = inl (both_play entry first second h)
  turn_by left f each first second h (Restarted message) = inl (restarted-stay script entry message first second h)
  turn_by left f each first second h (Finished done) = counted done left f each (done.changed || done.win) refl first second h

  key_turns-alike : (left : ℕ) → GoAlike entry (key_turns script left)
  key_turns-alike zero first second h = inl (both_play entry first second h)
  key_turns-alike (suc left) first second h =
      by_same_turn script None first.board second.board h.board
      (λ one other. Alike entry (key_turn_by script first left (key_turns script left) one).session
      (key_turn_by script second left (key_turns script left) other).session)
      (turn_by left (key_turns script left) (key_turns-alike left) first second h)

  all_key_turns-alike : GoAlike entry (all_key_turns script)
  unfolding all_key_turns
  all_key_turns-alike first second h = key_turns-alike AGAIN_LIMIT first second h

  -- a key's own turn ----------------------------------------------------------------------------------------------------

  with_history : (changed : Bool) (first second : Play) → AtOneSpot entry first second →
      AtOneSpot entry (with_board_in_history_if changed first) (with_board_in_history_if changed second)
  with_history true first second h = record {
    first_entry = h.first_entry;
    second_entry = h.second_entry;
    board = h.board;
    restart_board = h.restart_board;
  }
  with_history false first second h = h

  taken : (outcome : Outcome) → GoAlike entry (λ play. turn_taken script play outcome)
  taken (Blocked None) first second h = inl (both_play entry first second h)
  taken (Blocked (Some text)) first second h = inl (both_wait entry first second h Nothing)
  taken (Restarted message) first second h =
      inl (restarted-stay script entry message (with_board_in_history first) (with_board_in_history second)
      (with_history true first second h))
  taken (Finished done) first second h =
      framed done AGAIN_LIMIT (all_key_turns script) all_key_turns-alike (with_board_in_history_if done.changed first)
      (with_board_in_history_if done.changed second) (with_history done.changed first second h)

  input_alike : (input : Input) → GoAlike entry (λ play. input_taken script play input)
  input_alike input first second h =
      by_same_turn script (Some input) first.board second.board h.board
      (λ one other. Alike entry (turn_taken script first one).session (turn_taken script second other).session)
      (λ outcome. taken outcome first second h)

  -- inputs --------------------------------------------------------------------------------------------------------------

  unless : (ignored : Bool) → GoAlike entry (λ play. unless_ignored ignored play (λ here. input_taken script here Action))
  unless true first second h = inl (both_play entry first second h)
  unless false first second h = input_alike Action first second h

  pub in_level : (input : Input) → GoAlike entry (λ play. key_in_level script play (Move input))
  in_level Up first second h = input_alike Up first second h
  in_level Down first second h = input_alike Down first second h
  in_level Left first second h = input_alike Left first second h
  in_level Right first second h = input_alike Right first second h
  in_level Action first second h = unless script.options.no_action first second h

  on : (pending : Pending) → GoAlike entry (λ play. gone_on script play pending)
  on Nothing first second h = inl (both_play entry first second h)
  on LevelDone first second h = level_done-alike first second h
  on (KeyAgain left) first second h = key_turns-alike left first second h
  on (StartAgain left) first second h = inl (start_turns-stay script entry left first second h)

  pub at_message : (pending : Pending) (input : Input) → GoAlike entry (λ play. key_at_level_message script play pending (Move input))
  at_message pending Up first second h = inl (both_wait entry first second h pending)
  at_message pending Down first second h = inl (both_wait entry first second h pending)
  at_message pending Left first second h = inl (both_wait entry first second h pending)
  at_message pending Right first second h = inl (both_wait entry first second h pending)
  at_message pending Action first second h = on pending first second h
