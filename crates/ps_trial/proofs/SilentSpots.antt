-- What an input does in a level is what it does without showing it.
use Rattle.std.proofs.Common.{◌≡◌, ℕ, zero, suc, Bool, true, false, Option, Some, None, List, refl, ap, ◌∙◌, eq-eqb, arith, []}
use Rattle.std.specs.Prelude.{◌==◌, ◌||◌, is_some, nat_lt}
use Rattle.std.specs.Option.{option_or}
use Rattle.std.proofs.lemmas.Bool.Decides.{nat_tests}
use Rattle.ps_model.specs.declared.limits.TheConstants.{AGAIN_LIMIT}
use Rattle.ps_model.specs.declared.options.Options.{Options}
use Rattle.ps_model.specs.declared.play.Input.{Input}
use Rattle.ps_model.specs.declared.play.Input.TheVariants.{Up, Down, Left, Right, Action}
use Rattle.ps_model.specs.declared.play.Key.TheVariants.{Move}
use Rattle.ps_model.specs.board.Grid.{Grid}
use Rattle.ps_model.specs.board.Turns.{Script, Done, Outcome, Blocked, Restarted, Finished, turn}
use Rattle.ps_model.specs.session.Sessions.{Play, Pending, Nothing, LevelDone, KeyAgain, StartAgain, Session, Playing}
use Rattle.ps_model.specs.session.Sessions.{Waiting, AtMessage, Ended, Step, seen, with_turn, with_board, with_board_in_history}
use Rattle.ps_model.specs.session.StartSteps as starts
use Rattle.ps_model.specs.session.StartSteps.{first_room}
use Rattle.ps_model.specs.session.KeySteps as keys
use Rattle.ps_model.specs.session.Solving.{Spot, spot_of, spot, next_spot, is_past}
use Rattle.ps_laws.proofs.sessions.SpotsAtKeys.{enter_past}
use Rattle.ps_trial.specs.SilentStarts.{Boards, boards_with, spot_with, start_told, start_counted, start_turn_by, start_turns, all_start_turns, started, started_by, start_step, restarted}
use Rattle.ps_trial.specs.SilentKeys.{key_told, key_counted, key_turn_by, key_turns, all_key_turns, turn_taken, input_taken, in_level, gone_on, at_message, next_by, unless_ignored}

-- the boards of a level that is played
abbrev boards_of : Play → Boards
boards_of play = record { board = play.board; restart_board = play.restart_board }

-- who is past an entry is at no spot of it
not_there : (entry : ℕ) (play : Play) (waits : Option Pending) (b : Bool) → (play.entry == entry) ≡ b →
    nat_lt entry play.entry ≡ true → spot_of b play waits ≡ None
not_there entry play waits false e h = refl
not_there entry play waits true e h = absurd (grind (arith, nat_tests))

past_is_nowhere : (entry : ℕ) (session : Session) → is_past entry session ≡ true → spot entry session ≡ None
past_is_nowhere entry (Playing play) h = not_there entry play None (play.entry == entry) refl h
past_is_nowhere entry (Waiting play pending) h = not_there entry play (Some pending) (play.entry == entry) refl h
past_is_nowhere entry (AtMessage at) h = refl
past_is_nowhere entry (Ended ending) h = refl

module _ (entry : ℕ) where
  -- the steps from levels of the entry lead to the spots that these boards lead to
  abbrev Leads : (Play → Step) → (Boards → Option Spot) → Type 0
  Leads step silent = (play : Play) → play.entry ≡ entry → spot entry (step play).session ≡ silent (boards_of play)

  -- where a level of the entry stands
  at : (play : Play) → play.entry ≡ entry → (waits : Option Pending) →
      spot_of (play.entry == entry) play waits ≡ Some (spot_with (boards_of play) waits)
  at play there waits = ap (λ (b : Bool). spot_of b play waits) (eq-eqb play.entry entry there)

  -- a level that is done is past its entry
  done_is_nowhere : (script : Script) → Leads (starts.level_done script) (λ boards. None)
  done_is_nowhere script play there =
      past_is_nowhere entry (starts.level_done script play).session (enter_past script entry (suc play.entry) (omega arith))

  -- starts --------------------------------------------------------------------------------------------------------------

  told_start : (left : ℕ) (f : Play → Step) (g : Boards → Spot) → Leads f (λ boards. Some (g boards)) →
      (message : Option (List ℕ)) (again : Bool) →
      Leads (λ play. starts.start_told play message again left f) (λ boards. Some (start_told boards (is_some message) again left g))
  told_start left f g each (Some text) again play there = at play there (Some (starts.start_pending again left))
  told_start left f g each None false play there = at play there None
  told_start left f g each None true play there = each play there

  module _ (script small : Script) (same : (input : Option Input) (g : Grid) → turn script input g ≡ turn small input g)
      (options : script.options ≡ small.options) where
    counted_start : (done : Done) (left : ℕ) (f : Play → Step) (g : Boards → Spot) →
        Leads f (λ boards. Some (g boards)) → (changed : Bool) → done.changed ≡ changed →
        Leads (λ play. starts.start_counted script play done left f) (λ boards. Some (start_counted boards done left g))
    counted_start done left f g each false e play there = rw (e, starts.start_counted, start_counted) (at play there None)
    counted_start done left f g each true e play there =
        rw (e, starts.start_counted, start_counted)
        (told_start left f g each done.message done.again (seen script (with_turn play done)) there)

    start_by : (left : ℕ) (f : Play → Step) (g : Boards → Spot) → Leads f (λ boards. Some (g boards)) →
        (outcome : Outcome) →
        Leads (λ play. starts.start_turn_by script play left f outcome) (λ boards. Some (start_turn_by boards left g outcome))
    start_by left f g each (Blocked message) play there = at play there None
    start_by left f g each (Restarted message) play there = at play there None
    start_by left f g each (Finished done) play there = counted_start done left f g each done.changed refl play there

    turns_of_start : (left : ℕ) → Leads (starts.start_turns script left) (λ boards. Some (start_turns small left boards))
    turns_of_start zero play there = at play there None
    turns_of_start (suc left) play there =
        start_by left (starts.start_turns script left) (start_turns small left) (turns_of_start left)
        (turn script None play.board) play there
        ∙ ap (λ (outcome : Outcome). Some (start_turn_by (boards_of play) left (start_turns small left) outcome))
        (same None play.board)

    all_turns_of_start : Leads (starts.all_start_turns script) (λ boards. Some (all_start_turns small boards))
    unfolding starts.all_start_turns all_start_turns
    all_turns_of_start play there = turns_of_start AGAIN_LIMIT play there

    start_is : (message : Option (List ℕ)) (again : Bool) →
        Leads (λ play. starts.started script play message again) (λ boards. Some (started small boards (is_some message) again))
    start_is message again play there =
        told_start AGAIN_LIMIT (starts.all_start_turns script) (all_start_turns small) all_turns_of_start message again
        (seen script play) there

    -- of two messages one is there
    either_is : (own message : Option (List ℕ)) → is_some (option_or own message) ≡ (is_some own || is_some message)
    either_is None message = refl
    either_is (Some text) message = refl

    start_is_by : (message : Option (List ℕ)) (outcome : Outcome) →
        Leads (λ play. starts.started_by script play message outcome)
        (λ boards. Some (started_by small boards (is_some message) outcome))
    start_is_by message (Blocked own) play there =
        start_is (option_or own message) false play there
        ∙ ap (λ (tells : Bool). Some (started small (boards_of play) tells false)) (either_is own message)
    start_is_by message (Restarted own) play there =
        start_is (option_or own message) false play there
        ∙ ap (λ (tells : Bool). Some (started small (boards_of play) tells false)) (either_is own message)
    start_is_by message (Finished done) play there =
        start_is (option_or done.message message) done.again (with_turn play done) there
        ∙ ap (λ (tells : Bool). Some (started small (boards_with (boards_of play) done) tells done.again))
        (either_is done.message message)

    start_if : (message : Option (List ℕ)) (runs : Bool) → small.options.run_rules_on_level_start ≡ runs →
        Leads (λ play. starts.start_step script play message) (λ boards. Some (start_step small boards (is_some message)))
    start_if message false e play there =
        rw (options, starts.start_step, start_step, e) (start_is message false play there)
    start_if message true e play there =
        rw (options, starts.start_step, start_step, e)
        (start_is_by message (turn script None play.board) play there
        ∙ ap (λ (outcome : Outcome). Some (started_by small (boards_of play) (is_some message) outcome)) (same None play.board))

    restart_is : (message : Option (List ℕ)) →
        Leads (λ play. starts.restarted script play message) (λ boards. Some (restarted small boards (is_some message)))
    restart_is message play there =
        start_if message small.options.run_rules_on_level_start refl (with_board play play.restart_board) there

    -- keys --------------------------------------------------------------------------------------------------------------

    told_key : (done : Done) (left : ℕ) (f : Play → Step) (g : Boards → Option Spot) → Leads f g →
        (message : Option (List ℕ)) (win again : Bool) →
        done.message ≡ message → done.win ≡ win → done.again ≡ again →
        Leads (λ play. keys.key_told script play done left f) (λ boards. key_told boards done left g)
    told_key done left f g each (Some text) win again m w e play there =
        rw (m, keys.key_told, key_told) (at play there (Some (keys.key_pending done.win done.again left)))
    told_key done left f g each None true again m w e play there =
        rw (m, w, keys.key_told, key_told) (done_is_nowhere script play there)
    told_key done left f g each None false true m w e play there = rw (m, w, e, keys.key_told, key_told) (each play there)
    told_key done left f g each None false false m w e play there =
        rw (m, w, e, keys.key_told, key_told) (at play there None)

    framed_key : (done : Done) (left : ℕ) (f : Play → Step) (g : Boards → Option Spot) → Leads f g →
        Leads (λ play. keys.key_told script (seen script (with_turn play done)) done left f)
        (λ boards. key_told (boards_with boards done) done left g)
    framed_key done left f g each play there =
        told_key done left f g each done.message done.win done.again refl refl refl (seen script (with_turn play done)) there

    counted_key : (done : Done) (left : ℕ) (f : Play → Step) (g : Boards → Option Spot) → Leads f g → (counts : Bool) →
        (done.changed || done.win) ≡ counts →
        Leads (λ play. keys.key_counted script play done left f) (λ boards. key_counted boards done left g)
    counted_key done left f g each false e play there = rw (e, keys.key_counted, key_counted) (at play there None)
    counted_key done left f g each true e play there =
        rw (e, keys.key_counted, key_counted) (framed_key done left f g each play there)

    key_by : (left : ℕ) (f : Play → Step) (g : Boards → Option Spot) → Leads f g → (outcome : Outcome) →
        Leads (λ play. keys.key_turn_by script play left f outcome) (λ boards. key_turn_by small boards left g outcome)
    key_by left f g each (Blocked message) play there = at play there None
    key_by left f g each (Restarted message) play there = restart_is message play there
    key_by left f g each (Finished done) play there =
        counted_key done left f g each (done.changed || done.win) refl play there

    turns_of_key : (left : ℕ) → Leads (keys.key_turns script left) (key_turns small left)
    turns_of_key zero play there = at play there None
    turns_of_key (suc left) play there =
        key_by left (keys.key_turns script left) (key_turns small left) (turns_of_key left) (turn script None play.board)
        play there
        ∙ ap (key_turn_by small (boards_of play) left (key_turns small left)) (same None play.board)

    all_turns_of_key : Leads (keys.all_key_turns script) (all_key_turns small)
    unfolding keys.all_key_turns all_key_turns
    all_turns_of_key play there = turns_of_key AGAIN_LIMIT play there

    done_key : (done : Done) (changed : Bool) →
        Leads (λ play. keys.key_done script (keys.with_board_in_history_if changed play) done)
        (λ boards. key_told (boards_with boards done) done AGAIN_LIMIT (all_key_turns small))
    done_key done true play there =
        framed_key done AGAIN_LIMIT (keys.all_key_turns script) (all_key_turns small) all_turns_of_key
        (with_board_in_history play) there
    done_key done false play there =
        framed_key done AGAIN_LIMIT (keys.all_key_turns script) (all_key_turns small) all_turns_of_key play there

    taken : (outcome : Outcome) →
        Leads (λ play. keys.turn_taken script play outcome) (λ boards. turn_taken small boards outcome)
    taken (Blocked None) play there = at play there None
    taken (Blocked (Some text)) play there = at play there (Some Nothing)
    taken (Restarted message) play there = restart_is message (with_board_in_history play) there
    taken (Finished done) play there = done_key done done.changed play there

    input_is : (input : Input) → Leads (λ play. keys.input_taken script play input) (λ boards. input_taken small boards input)
    input_is input play there =
        taken (turn script (Some input) play.board) play there
        ∙ ap (turn_taken small (boards_of play)) (same (Some input) play.board)

    unless : (ignored : Bool) →
        Leads (λ play. keys.unless_ignored ignored play (λ here. keys.input_taken script here Action))
        (λ boards. unless_ignored ignored boards (input_taken small boards Action))
    unless true play there = at play there None
    unless false play there = input_is Action play there

    in_level_is : (input : Input) →
        Leads (λ play. keys.key_in_level script play (Move input)) (λ boards. in_level small boards input)
    in_level_is Up play there = input_is Up play there
    in_level_is Down play there = input_is Down play there
    in_level_is Left play there = input_is Left play there
    in_level_is Right play there = input_is Right play there
    in_level_is Action play there =
        unless script.options.no_action play there
        ∙ ap (λ (o : Options). unless_ignored o.no_action (boards_of play) (input_taken small (boards_of play) Action)) options

    on : (pending : Pending) → Leads (λ play. keys.gone_on script play pending) (λ boards. gone_on small boards pending)
    on Nothing play there = at play there None
    on LevelDone play there = done_is_nowhere script play there
    on (KeyAgain left) play there = turns_of_key left play there
    on (StartAgain left) play there = turns_of_start left play there

    at_message_is : (pending : Pending) (input : Input) →
        Leads (λ play. keys.key_at_level_message script play pending (Move input))
        (λ boards. at_message small boards pending input)
    at_message_is pending Up play there = at play there (Some pending)
    at_message_is pending Down play there = at play there (Some pending)
    at_message_is pending Left play there = at play there (Some pending)
    at_message_is pending Right play there = at play there (Some pending)
    at_message_is pending Action play there = on pending play there

    -- a level at a spot
    abbrev play_at : Boards → Play
    play_at boards = record {
      entry = entry;
      board = boards.board;
      history = [];
      restart_board = boards.restart_board;
      room = first_room;
    }

    -- the spot that an input leads to is the one that it leads to without showing it
    pub next_is : (boards : Boards) (waits : Option Pending) (input : Input) →
        next_spot script entry (spot_with boards waits) input ≡ next_by small boards waits input
    next_is boards None input = in_level_is input (play_at boards) refl
    next_is boards (Some pending) input = at_message_is pending input (play_at boards) refl
