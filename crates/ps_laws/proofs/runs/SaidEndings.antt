-- A session that ends says so: the step that ends it has a text. So a run whose game goes on has something left to
-- write.
use Rattle.std.proofs.Common.{◌≡◌, ℕ, ◌≤◌, suc, zero, Bool, true, false, Option, Some, None, List, [], refl, length}
use Rattle.std.proofs.Common.{arith}
use Rattle.std.specs.Prelude.{◌||◌, ◌-◌, slice_get}
use Rattle.std.specs.Option.{option_or}
use Rattle.std.proofs.lemmas.List.{length-append}
use Rattle.ps_model.specs.declared.play.Ending.{Ending}
use Rattle.ps_model.specs.declared.play.Input.{Input}
use Rattle.ps_model.specs.declared.play.Input.TheVariants.{Up, Down, Left, Right, Action}
use Rattle.ps_model.specs.declared.play.Key.{Key}
use Rattle.ps_model.specs.declared.play.Key.TheVariants.{Move, Undo, Restart, Quit}
use Rattle.ps_model.specs.declared.limits.TheConstants.{AGAIN_LIMIT}
use Rattle.ps_model.specs.session.LevelLines.{Entry, MessageEntry, LevelEntry}
use Rattle.ps_model.specs.board.Turns.{Script, Done, Outcome, Blocked, Restarted, Finished, turn}
use Rattle.ps_model.specs.session.Sessions.{Play, Pending, Nothing, LevelDone, KeyAgain, StartAgain, Session, Playing}
use Rattle.ps_model.specs.session.Sessions.{Waiting, AtMessage, Ended, Step, quietly, after, waiting, message_line}
use Rattle.ps_model.specs.session.Sessions.{seen, shown, done_line, level_line, with_board_in_history, with_turn}
use Rattle.ps_model.specs.session.StartSteps.{start_pending, start_told, start_counted, start_turn_by, start_turns}
use Rattle.ps_model.specs.session.StartSteps.{all_start_turns, started, started_by, start_step, entered, enter, fresh}
use Rattle.ps_model.specs.session.StartSteps.{restarted}
use Rattle.ps_model.specs.session.KeySteps.{key_pending, key_told, key_counted, key_turn_by, key_turns, all_key_turns}
use Rattle.ps_model.specs.session.KeySteps.{with_board_in_history_if, key_done, turn_taken, back_at, undone}
use Rattle.ps_model.specs.session.KeySteps.{unless_ignored, key_in_level, input_taken, gone_on, key_at_level_message}
use Rattle.ps_model.specs.session.KeySteps.{key_at_entry, key_step}
use Rattle.ps_model.specs.game.Outputs.{ending_of}

-- a step that ends the session has a text
abbrev pub IsSaid : Step → Type 0
IsSaid step = (ending : Ending) → ending_of step.session ≡ Some ending → 1 ≤ length step.text

in_play : (play : Play) (text : List ℕ) → IsSaid (record { session = Playing play; text = text })
in_play play text ending e = absurd (cc)

in_wait : (play : Play) (pending : Pending) (text : List ℕ) →
    IsSaid (record { session = Waiting play pending; text = text })
in_wait play pending text ending e = absurd (cc)

at_entry : (entry : ℕ) (text : List ℕ) → IsSaid (record { session = AtMessage entry; text = text })
at_entry entry text ending e = absurd (cc)

-- a text is before one that ends the session
of_after : (text : List ℕ) (step : Step) → IsSaid step → IsSaid (after text step)
of_after text step said ending e =
    let more : 1 ≤ length step.text = said ending e in
    let sum = length-append text step.text in omega (arith, more, sum)

-- starts --------------------------------------------------------------------------------------------------------------

of_start_told : (play : Play) (message : Option (List ℕ)) (again : Bool) (left : ℕ) (turns : Play → Step) →
    ((p : Play) → IsSaid (turns p)) →
    IsSaid (start_told play message again left turns)
of_start_told play (Some text) again left turns said = in_wait play (start_pending again left) (message_line text)
of_start_told play None false left turns said = in_play play []
of_start_told play None true left turns said = said play

of_start_counted : (script : Script) (play : Play) (done : Done) (left : ℕ) (turns : Play → Step) →
    ((p : Play) → IsSaid (turns p)) → (changed : Bool) → done.changed ≡ changed →
    IsSaid (start_counted script play done left turns)
of_start_counted script play done left turns said false e = rw (e, start_counted) (in_play play [])
of_start_counted script play done left turns said true e =
    let next : Play = seen script (with_turn play done) in
    rw (e, start_counted) (of_after (shown script next) (start_told next done.message done.again left turns)
    (of_start_told next done.message done.again left turns said))

of_start_turn : (script : Script) (play : Play) (left : ℕ) (turns : Play → Step) → ((p : Play) → IsSaid (turns p)) →
    (outcome : Outcome) →
    IsSaid (start_turn_by script play left turns outcome)
of_start_turn script play left turns said (Blocked message) = in_play play []
of_start_turn script play left turns said (Restarted message) = in_play play []
of_start_turn script play left turns said (Finished done) =
    of_start_counted script play done left turns said done.changed refl

of_start_turns : (script : Script) (left : ℕ) (play : Play) → IsSaid (start_turns script left play)
of_start_turns script zero play = in_play play []
of_start_turns script (suc left) play = of_start_turn script play left (start_turns script left)
    (of_start_turns script left) (turn script None play.board)

of_all_start_turns : (script : Script) (play : Play) → IsSaid (all_start_turns script play)
unfolding all_start_turns
of_all_start_turns script play = of_start_turns script AGAIN_LIMIT play

of_started : (script : Script) (play : Play) (message : Option (List ℕ)) (again : Bool) →
    IsSaid (started script play message again)
of_started script play message again =
    let next : Play = seen script play in
    of_after (shown script next) (start_told next message again AGAIN_LIMIT (all_start_turns script))
    (of_start_told next message again AGAIN_LIMIT (all_start_turns script) (of_all_start_turns script))

of_started_by : (script : Script) (play : Play) (message : Option (List ℕ)) (outcome : Outcome) →
    IsSaid (started_by script play message outcome)
of_started_by script play message (Blocked own) = of_started script play (option_or own message) false
of_started_by script play message (Restarted own) = of_started script play (option_or own message) false
of_started_by script play message (Finished done) =
    of_started script (with_turn play done) (option_or done.message message) done.again

of_start_step : (script : Script) (play : Play) (message : Option (List ℕ)) (own : Bool) →
    script.options.run_rules_on_level_start ≡ own → IsSaid (start_step script play message)
of_start_step script play message true e = rw (e, start_step)
    (of_started_by script play message (turn script None play.board))
of_start_step script play message false e = rw (e, start_step) (of_started script play message false)

of_entered : (script : Script) (entry : ℕ) (found : Option Entry) → IsSaid (entered script entry found)
of_entered script entry None = λ ending e. omega arith
of_entered script entry (Some (MessageEntry text)) = at_entry entry (message_line text)
of_entered script entry (Some (LevelEntry level)) =
    of_after (level_line script entry) (start_step script (fresh script entry level) None)
    (of_start_step script (fresh script entry level) None script.options.run_rules_on_level_start refl)

of_enter : (script : Script) (entry : ℕ) → IsSaid (enter script entry)
of_enter script entry = of_entered script entry (slice_get script.entries entry)

of_restarted : (script : Script) (play : Play) (message : Option (List ℕ)) → IsSaid (restarted script play message)
of_restarted script play message = of_start_step script _ message script.options.run_rules_on_level_start refl

of_level_done : (script : Script) (play : Play) →
    IsSaid (after (done_line script play.entry) (enter script (suc play.entry)))
of_level_done script play = of_after (done_line script play.entry) (enter script (suc play.entry))
    (of_enter script (suc play.entry))

-- keys ----------------------------------------------------------------------------------------------------------------

of_key_told : (script : Script) (play : Play) (done : Done) (left : ℕ) (turns : Play → Step) →
    ((p : Play) → IsSaid (turns p)) →
    (message : Option (List ℕ)) (win again : Bool) → done.message ≡ message → done.win ≡ win → done.again ≡ again →
    IsSaid (key_told script play done left turns)
of_key_told script play done left turns said (Some text) win again m w a =
    rw (m, key_told) (in_wait play (key_pending done.win done.again left) (message_line text))
of_key_told script play done left turns said None true again m w a = rw (m, w, key_told) (of_level_done script play)
of_key_told script play done left turns said None false true m w a = rw (m, w, a, key_told) (said play)
of_key_told script play done left turns said None false false m w a = rw (m, w, a, key_told) (in_play play [])

of_key_counted : (script : Script) (play : Play) (done : Done) (left : ℕ) (turns : Play → Step) →
    ((p : Play) → IsSaid (turns p)) → (counts : Bool) → (done.changed || done.win) ≡ counts →
    IsSaid (key_counted script play done left turns)
of_key_counted script play done left turns said false e = rw (e, key_counted) (in_play play [])
of_key_counted script play done left turns said true e =
    let next : Play = seen script (with_turn play done) in
    rw (e, key_counted) (of_after (shown script next) (key_told script next done left turns)
    (of_key_told script next done left turns said done.message done.win done.again refl refl refl))

of_key_turn : (script : Script) (play : Play) (left : ℕ) (turns : Play → Step) → ((p : Play) → IsSaid (turns p)) →
    (outcome : Outcome) →
    IsSaid (key_turn_by script play left turns outcome)
of_key_turn script play left turns said (Blocked message) = in_play play []
of_key_turn script play left turns said (Restarted message) = of_restarted script play message
of_key_turn script play left turns said (Finished done) =
    of_key_counted script play done left turns said (done.changed || done.win) refl

of_key_turns : (script : Script) (left : ℕ) (play : Play) → IsSaid (key_turns script left play)
of_key_turns script zero play = in_play play []
of_key_turns script (suc left) play = of_key_turn script play left (key_turns script left) (of_key_turns script left)
    (turn script None play.board)

of_all_key_turns : (script : Script) (play : Play) → IsSaid (all_key_turns script play)
unfolding all_key_turns
of_all_key_turns script play = of_key_turns script AGAIN_LIMIT play

of_key_done : (script : Script) (play : Play) (done : Done) → IsSaid (key_done script play done)
of_key_done script play done =
    let next : Play = seen script (with_turn play done) in
    of_after (shown script next) (key_told script next done AGAIN_LIMIT (all_key_turns script))
    (of_key_told script next done AGAIN_LIMIT (all_key_turns script) (of_all_key_turns script) done.message
    done.win done.again refl refl refl)

of_turn_taken : (script : Script) (play : Play) (outcome : Outcome) → IsSaid (turn_taken script play outcome)
of_turn_taken script play (Blocked None) = of_after (shown script play) (quietly (Playing play)) (in_play play [])
of_turn_taken script play (Blocked (Some text)) =
    of_after (shown script play) (waiting play text Nothing) (in_wait play Nothing (message_line text))
of_turn_taken script play (Restarted message) = of_restarted script (with_board_in_history play) message
of_turn_taken script play (Finished done) = of_key_done script (with_board_in_history_if done.changed play) done

of_undone : (script : Script) (play : Play) → IsSaid (undone script play)
of_undone script play =
    let back : Play = back_at script play (slice_get play.history (length play.history - 1)) in
    in_play back (shown script back)

of_unless_ignored : (ignored : Bool) (play : Play) (key : Play → Step) → ((p : Play) → IsSaid (key p)) →
    IsSaid (unless_ignored ignored play key)
of_unless_ignored true play key said = in_play play []
of_unless_ignored false play key said = said play

of_input_taken : (script : Script) (play : Play) (input : Input) → IsSaid (input_taken script play input)
of_input_taken script play input = of_turn_taken script play (turn script (Some input) play.board)

of_key_in_level : (script : Script) (play : Play) (key : Key) → IsSaid (key_in_level script play key)
of_key_in_level script play (Move Up) = of_input_taken script play Up
of_key_in_level script play (Move Down) = of_input_taken script play Down
of_key_in_level script play (Move Left) = of_input_taken script play Left
of_key_in_level script play (Move Right) = of_input_taken script play Right
of_key_in_level script play (Move Action) = of_unless_ignored script.options.no_action play (λ here.
    input_taken script here Action) (λ here. of_input_taken script here Action)
of_key_in_level script play Undo = of_unless_ignored script.options.no_undo play (undone script) (of_undone script)
of_key_in_level script play Restart = of_unless_ignored script.options.no_restart play (λ here.
    restarted script (with_board_in_history here) None) (λ here. of_restarted script (with_board_in_history here) None)
of_key_in_level script play Quit = λ ending e. omega arith

of_gone_on : (script : Script) (play : Play) (pending : Pending) → IsSaid (gone_on script play pending)
of_gone_on script play Nothing = in_play play []
of_gone_on script play LevelDone = of_level_done script play
of_gone_on script play (KeyAgain left) = of_key_turns script left play
of_gone_on script play (StartAgain left) = of_start_turns script left play

of_key_at_level_message : (script : Script) (play : Play) (pending : Pending) (key : Key) →
    IsSaid (key_at_level_message script play pending key)
of_key_at_level_message script play pending (Move Action) = of_gone_on script play pending
of_key_at_level_message script play pending Quit = λ ending e. omega arith
of_key_at_level_message script play pending _ = in_wait play pending []

of_key_at_entry : (script : Script) (entry : ℕ) (key : Key) → IsSaid (key_at_entry script entry key)
of_key_at_entry script entry (Move Action) = of_enter script (suc entry)
of_key_at_entry script entry Quit = λ ending e. omega arith
of_key_at_entry script entry _ = at_entry entry []

-- a key that ends a session has a text
pub of_key_step : (script : Script) (session : Session) (key : Key) → ending_of session ≡ None →
    IsSaid (key_step script session key)
of_key_step script (Playing play) key e = of_key_in_level script play key
of_key_step script (Waiting play pending) key e = of_key_at_level_message script play pending key
of_key_step script (AtMessage entry) key e = of_key_at_entry script entry key
of_key_step script (Ended ending) key e = absurd (cc)
