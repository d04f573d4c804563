-- How sessions end: after the last entry, or as the player quits, and never for want of keys.
use Rattle.std.proofs.Common.{◌≡◌, ◌≢◌, ℕ, suc, zero, Bool, true, false, Option, Some, None, List, [], ◌∷◌, ◌++◌, refl}
use Rattle.std.proofs.Common.{sym, ◌∙◌, ap}
use Rattle.std.specs.Prelude.{◌||◌, ◌-◌, length, slice_get}
use Rattle.std.specs.Option.{option_or}
use Rattle.ps_model.specs.declared.play.Ending.{Ending}
use Rattle.ps_model.specs.declared.play.Ending.TheVariants.{TheEnd, Quit as Quits, EndOfKeys}
use Rattle.ps_model.specs.declared.play.Input.{Input}
use Rattle.ps_model.specs.declared.play.Input.TheVariants.{Up, Down, Left, Right, Action}
use Rattle.ps_model.specs.declared.play.Key.{Key}
use Rattle.ps_model.specs.declared.play.Key.TheVariants.{Move, Undo, Restart, Quit}
use Rattle.ps_model.specs.declared.limits.TheConstants.{AGAIN_LIMIT}
use Rattle.ps_model.specs.session.LevelLines.{Entry, MessageEntry, LevelEntry}
use Rattle.ps_model.specs.session.Keys.{keys_of}
use Rattle.ps_model.specs.board.Turns.{Script, Done, Outcome, Blocked, Restarted, Finished, turn}
use Rattle.ps_model.specs.session.Sessions.{Play, Pending, Nothing, LevelDone, KeyAgain, StartAgain, Session, Playing}
use Rattle.ps_model.specs.session.Sessions.{Waiting, AtMessage, Ended, Step, seen, with_board_in_history, with_turn}
use Rattle.ps_model.specs.session.StartSteps.{start_pending, start_told, start_counted, start_turn_by, start_turns}
use Rattle.ps_model.specs.session.StartSteps.{all_start_turns, started, started_by, start_step, entered, enter, fresh}
use Rattle.ps_model.specs.session.StartSteps.{restarted}
use Rattle.ps_model.specs.session.KeySteps.{key_pending, key_told, key_counted, key_turn_by, key_turns, all_key_turns}
use Rattle.ps_model.specs.session.KeySteps.{turn_taken, back_at, undone, unless_ignored, key_in_level, input_taken}
use Rattle.ps_model.specs.session.KeySteps.{gone_on, key_at_level_message, key_at_entry, key_step}
use Rattle.ps_model.specs.game.Outputs.{Output, output, opening_step, ending_of, end_of_keys_line}
use Rattle.ps_laws.specs.Fronts.{session_after, session_of, whole_front, EndsOtherwise, WrittenByEnding}
use Rattle.ps_laws.proofs.keys.Fronts.{output_of_ended, output_of_unended}

-- the session hasn't ended for want of keys
abbrev pub IsOwn : Session → Type 0
IsOwn session = ending_of session ≢ Some EndOfKeys

in_play : (play : Play) → IsOwn (Playing play)
in_play play e = absurd (cc)

in_wait : (play : Play) (pending : Pending) → IsOwn (Waiting play pending)
in_wait play pending e = absurd (cc)

at_entry : (entry : ℕ) → IsOwn (AtMessage entry)
at_entry entry e = absurd (cc)

at_end : IsOwn (Ended TheEnd)
at_end e = absurd (cc)

at_quit : IsOwn (Ended Quits)
at_quit e = absurd (cc)

-- starts --------------------------------------------------------------------------------------------------------------

of_start_told : (play : Play) (message : Option (List ℕ)) (again : Bool) (left : ℕ) (turns : Play → Step) →
    ((p : Play) → IsOwn (turns p).session) →
    IsOwn (start_told play message again left turns).session
of_start_told play (Some text) again left turns own = in_wait play (start_pending again left)
of_start_told play None false left turns own = in_play play
of_start_told play None true left turns own = own play

of_start_counted : (script : Script) (play : Play) (done : Done) (left : ℕ) (turns : Play → Step) →
    ((p : Play) → IsOwn (turns p).session) → (changed : Bool) → done.changed ≡ changed →
    IsOwn (start_counted script play done left turns).session
of_start_counted script play done left turns own false e = rw (e, start_counted) (in_play play)
of_start_counted script play done left turns own true e =
    rw (e, start_counted) (of_start_told (seen script (with_turn play done)) done.message done.again left turns own)

of_start_turn : (script : Script) (play : Play) (left : ℕ) (turns : Play → Step) →
    ((p : Play) → IsOwn (turns p).session) → (outcome : Outcome) →
    IsOwn (start_turn_by script play left turns outcome).session
of_start_turn script play left turns own (Blocked message) = in_play play
of_start_turn script play left turns own (Restarted message) = in_play play
of_start_turn script play left turns own (Finished done) =
    of_start_counted script play done left turns own done.changed refl

of_start_turns : (script : Script) (left : ℕ) (play : Play) → IsOwn (start_turns script left play).session
of_start_turns script zero play = in_play play
of_start_turns script (suc left) play = of_start_turn script play left (start_turns script left)
    (of_start_turns script left) (turn script None play.board)

of_all_start_turns : (script : Script) (play : Play) → IsOwn (all_start_turns script play).session
unfolding all_start_turns
of_all_start_turns script play = of_start_turns script AGAIN_LIMIT play

of_started : (script : Script) (play : Play) (message : Option (List ℕ)) (again : Bool) →
    IsOwn (started script play message again).session
of_started script play message again = of_start_told (seen script play) message again AGAIN_LIMIT
    (all_start_turns script) (of_all_start_turns script)

of_started_by : (script : Script) (play : Play) (message : Option (List ℕ)) (outcome : Outcome) →
    IsOwn (started_by script play message outcome).session
of_started_by script play message (Blocked own) = of_started script play (option_or own message) false
of_started_by script play message (Restarted own) = of_started script play (option_or own message) false
of_started_by script play message (Finished done) =
    of_started script (with_turn play done) (option_or done.message message) done.again

of_start_step : (script : Script) (play : Play) (message : Option (List ℕ)) (own : Bool) →
    script.options.run_rules_on_level_start ≡ own → IsOwn (start_step script play message).session
of_start_step script play message true e = rw (e, start_step)
    (of_started_by script play message (turn script None play.board))
of_start_step script play message false e = rw (e, start_step) (of_started script play message false)

of_entered : (script : Script) (entry : ℕ) (found : Option Entry) → IsOwn (entered script entry found).session
of_entered script entry None = at_end
of_entered script entry (Some (MessageEntry text)) = at_entry entry
of_entered script entry (Some (LevelEntry level)) =
    of_start_step script (fresh script entry level) None script.options.run_rules_on_level_start refl

pub of_enter : (script : Script) (entry : ℕ) → IsOwn (enter script entry).session
of_enter script entry = of_entered script entry (slice_get script.entries entry)

of_restarted : (script : Script) (play : Play) (message : Option (List ℕ)) →
    IsOwn (restarted script play message).session
of_restarted script play message = of_start_step script _ message script.options.run_rules_on_level_start refl

-- keys ----------------------------------------------------------------------------------------------------------------

of_key_told : (script : Script) (play : Play) (done : Done) (left : ℕ) (turns : Play → Step) →
    ((p : Play) → IsOwn (turns p).session) →
    (message : Option (List ℕ)) (win again : Bool) → done.message ≡ message → done.win ≡ win → done.again ≡ again →
    IsOwn (key_told script play done left turns).session
of_key_told script play done left turns own (Some text) win again m w a =
    rw (m, key_told) (in_wait play (key_pending done.win done.again left))
of_key_told script play done left turns own None true again m w a =
    rw (m, w, key_told) (of_enter script (suc play.entry))
of_key_told script play done left turns own None false true m w a = rw (m, w, a, key_told) (own play)
of_key_told script play done left turns own None false false m w a = rw (m, w, a, key_told) (in_play play)

of_key_counted : (script : Script) (play : Play) (done : Done) (left : ℕ) (turns : Play → Step) →
    ((p : Play) → IsOwn (turns p).session) → (counts : Bool) → (done.changed || done.win) ≡ counts →
    IsOwn (key_counted script play done left turns).session
of_key_counted script play done left turns own false e = rw (e, key_counted) (in_play play)
of_key_counted script play done left turns own true e =
    rw (e, key_counted) (of_key_told script (seen script (with_turn play done)) done left turns own done.message
    done.win done.again refl refl refl)

of_key_turn : (script : Script) (play : Play) (left : ℕ) (turns : Play → Step) →
    ((p : Play) → IsOwn (turns p).session) → (outcome : Outcome) →
    IsOwn (key_turn_by script play left turns outcome).session
of_key_turn script play left turns own (Blocked message) = in_play play
of_key_turn script play left turns own (Restarted message) = of_restarted script play message
of_key_turn script play left turns own (Finished done) =
    of_key_counted script play done left turns own (done.changed || done.win) refl

of_key_turns : (script : Script) (left : ℕ) (play : Play) → IsOwn (key_turns script left play).session
of_key_turns script zero play = in_play play
of_key_turns script (suc left) play = of_key_turn script play left (key_turns script left) (of_key_turns script left)
    (turn script None play.board)

of_all_key_turns : (script : Script) (play : Play) → IsOwn (all_key_turns script play).session
unfolding all_key_turns
of_all_key_turns script play = of_key_turns script AGAIN_LIMIT play

of_turn_taken : (script : Script) (play : Play) (outcome : Outcome) → IsOwn (turn_taken script play outcome).session
of_turn_taken script play (Blocked None) = in_play play
of_turn_taken script play (Blocked (Some text)) = in_wait play Nothing
of_turn_taken script play (Restarted message) = of_restarted script (with_board_in_history play) message
of_turn_taken script play (Finished done) = of_key_told script _ done AGAIN_LIMIT (all_key_turns script)
    (of_all_key_turns script) done.message done.win done.again refl refl refl

of_undone : (script : Script) (play : Play) → IsOwn (undone script play).session
of_undone script play = in_play (back_at script play (slice_get play.history (length play.history - 1)))

of_unless_ignored : (ignored : Bool) (play : Play) (key : Play → Step) → ((p : Play) → IsOwn (key p).session) →
    IsOwn (unless_ignored ignored play key).session
of_unless_ignored true play key own = in_play play
of_unless_ignored false play key own = own play

of_input_taken : (script : Script) (play : Play) (input : Input) → IsOwn (input_taken script play input).session
of_input_taken script play input = of_turn_taken script play (turn script (Some input) play.board)

of_key_in_level : (script : Script) (play : Play) (key : Key) → IsOwn (key_in_level script play key).session
of_key_in_level script play (Move Up) = of_input_taken script play Up
of_key_in_level script play (Move Down) = of_input_taken script play Down
of_key_in_level script play (Move Left) = of_input_taken script play Left
of_key_in_level script play (Move Right) = of_input_taken script play Right
of_key_in_level script play (Move Action) = of_unless_ignored script.options.no_action play (λ here.
    input_taken script here Action) (λ here. of_input_taken script here Action)
of_key_in_level script play Undo = of_unless_ignored script.options.no_undo play (undone script) (of_undone script)
of_key_in_level script play Restart = of_unless_ignored script.options.no_restart play (λ here.
    restarted script (with_board_in_history here) None) (λ here. of_restarted script (with_board_in_history here) None)
of_key_in_level script play Quit = at_quit

of_gone_on : (script : Script) (play : Play) (pending : Pending) → IsOwn (gone_on script play pending).session
of_gone_on script play Nothing = in_play play
of_gone_on script play LevelDone = of_enter script (suc play.entry)
of_gone_on script play (KeyAgain left) = of_key_turns script left play
of_gone_on script play (StartAgain left) = of_start_turns script left play

of_key_at_level_message : (script : Script) (play : Play) (pending : Pending) (key : Key) →
    IsOwn (key_at_level_message script play pending key).session
of_key_at_level_message script play pending (Move Action) = of_gone_on script play pending
of_key_at_level_message script play pending Quit = at_quit
of_key_at_level_message script play pending _ = in_wait play pending

of_key_at_entry : (script : Script) (entry : ℕ) (key : Key) → IsOwn (key_at_entry script entry key).session
of_key_at_entry script entry (Move Action) = of_enter script (suc entry)
of_key_at_entry script entry Quit = at_quit
of_key_at_entry script entry _ = at_entry entry

-- runs ----------------------------------------------------------------------------------------------------------------

pub of_key_step : (script : Script) (session : Session) (key : Key) → IsOwn session →
    IsOwn (key_step script session key).session
of_key_step script (Playing play) key own = of_key_in_level script play key
of_key_step script (Waiting play pending) key own = of_key_at_level_message script play pending key
of_key_step script (AtMessage entry) key own = of_key_at_entry script entry key
of_key_step script (Ended ending) key own = own

of_keys : (script : Script) (session : Session) (keys : List Key) → IsOwn session →
    IsOwn (session_after script session keys)
of_keys script session [] own = own
of_keys script session (key ∷ keys) own = of_keys script (key_step script session key).session keys
    (of_key_step script session key own)

pub ends_otherwise : EndsOtherwise
unfolding opening_step
ends_otherwise script bytes = of_keys script (opening_step script).session (keys_of bytes)
    (of_enter script script.first_entry)

-- what the ending tells
by_ending : (script : Script) (bytes : List ℕ) (found : Option Ending) → ending_of (session_of script bytes) ≡ found →
    ((output script bytes).ending ≡ EndOfKeys →
    (output script bytes).written ≡ whole_front script bytes ++ end_of_keys_line)
    × ((output script bytes).ending ≢ EndOfKeys → (output script bytes).written ≡ whole_front script bytes)
by_ending script bytes None e =
    let is = output_of_unended script bytes e in
    (λ told. ap (λ (o : Output). o.written) is, λ other. absurd (other (ap (λ (o : Output). o.ending) is)))
by_ending script bytes (Some ending) e =
    let is = output_of_ended script bytes ending e in (
      λ told. absurd (ends_otherwise script bytes (e ∙ ap Some (sym (ap (λ (o : Output). o.ending) is) ∙ told))),
      λ other. ap (λ (o : Output). o.written) is,
    )

pub written_by_ending : WrittenByEnding
written_by_ending script bytes = by_ending script bytes (ending_of (session_of script bytes)) refl
