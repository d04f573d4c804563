-- What a key comes to, told of the value of a session: it is the session's inside, whose text was forgotten first.
use Rattle.std.proofs.Common.{◌≡◌, ◌∙◌, ◌++◌, ℕ, true, false, Option, Some, None, List, Result, Ok, Err, sym}
use Rattle.std.proofs.Common.{ap, subst}
use Rattle.std.proofs.lemmas.List.{append-nil}
use Rattle.ps_model.specs.board.Programs.{Section}
use Rattle.ps_model.specs.declared.play.Key.{Key}
use Rattle.ps_model.specs.session.KeySteps.{key_step}
use Rattle.ps_model.specs.session.Sessions.{Session, Step, quietly}
use Rattle.ps_board.specs.Histories.{BoardShown}
use Rattle.ps_stage.specs.Locations.{location_shown}
use Rattle.ps_stage.specs.Standings.{SessionParts, SessionValue, Standing, script_for}
use Rattle.ps_stage.specs.StepsShown.{came}
use Rattle.ps_stage.specs.declared.locations.Location.{Location}
use Rattle.ps_stage.specs.declared.stops.Stop.{Stop}
use Rattle.ps_session.specs.Histories.{grids_of}
use Rattle.ps_model.specs.session.IgnoredKeys.{is_ignored}
use Rattle.ps_session.specs.Left.{IsLeft}

-- the game of the value
pub game_of_value : (now then : SessionParts) (inside value : SessionValue) → now ≡ then → then ≡ inside.game →
    inside ≡ value → now ≡ value.game
game_of_value now then inside value is forgot shown =
    is ∙ forgot ∙ ap (λ (session : SessionValue). session.game) shown

-- the value of a session with the same parts
pub same_value : (now : SessionParts) (here there : Location Standing) (boards before : List BoardShown)
    (inside value : SessionValue) → inside.session ≡ location_shown (grids_of before) there → now ≡ value.game →
    here ≡ there → boards ≡ before → inside ≡ value →
    record { game = now; session = location_shown (grids_of boards) here } ≡ value
same_value now here there boards before inside value session game location history shown =
    let same : location_shown (grids_of boards) here ≡ value.session =
    ap (λ (boards : List BoardShown). location_shown (grids_of boards) here) history
    ∙ ap (λ (here : Location Standing). location_shown (grids_of before) here) location
    ∙ sym session ∙ ap (λ (session : SessionValue). session.session) shown in
    ap (λ (game : SessionParts). let v : SessionValue = record {
      game = game;
      session = location_shown (grids_of boards) here;
    } in v) game
    ∙ ap (λ (session : Session). let v : SessionValue = record { game = value.game; session = session } in v) same

-- the step of the key
pub step_of_value : (table_for : List ℕ → Option (List ℕ)) (plain late : Option (List ℕ) → List Section)
    (forgot : SessionParts) (inside value : SessionValue) (key : Key) → forgot ≡ inside.game → inside ≡ value →
    key_step (script_for table_for value.game plain late) value.session key
    ≡ key_step (script_for table_for forgot plain late) inside.session key
step_of_value table_for plain late forgot inside value key is shown =
    ap (λ (session : SessionValue). key_step (script_for table_for session.game plain late) session.session key)
    (sym shown)
    ∙ ap (λ (game : SessionParts). key_step (script_for table_for game plain late) inside.session key) (sym is)

-- the key is ignored inside, where it is
pub ignored_inside : (forgot : SessionParts) (inside value : SessionValue) (key : Key) → forgot ≡ inside.game →
    inside ≡ value → is_ignored value.game.options value.session key ≡ true →
    is_ignored forgot.options inside.session key ≡ true
ignored_inside forgot inside value key is shown ignored =
    ap (λ (game : SessionParts). is_ignored game.options inside.session key) is
    ∙ ap (λ (session : SessionValue). is_ignored session.game.options session.session key) shown ∙ ignored

-- what is said of a step that came to a session with a text
pub session_come : (step : Step) (session now : Session) (text : List ℕ) → step ≡ came session text → now ≡ session →
    now ≡ step.session
session_come step session now text is same = same ∙ sym (ap (λ (step : Step). step.session) is)

pub text_come : (step : Step) (session : Session) (text before now : List ℕ) → step ≡ came session text →
    now ≡ before ++ text → now ≡ before ++ step.text
text_come step session text before now is same =
    same ∙ ap (λ (text : List ℕ). before ++ text) (sym (ap (λ (step : Step). step.text) is))

-- and of one without a text
pub no_text_come : (step : Step) (session : Session) (before : List ℕ) → step ≡ quietly session →
    before ≡ before ++ step.text
no_text_come step session before is =
    sym (append-nil before) ∙ ap (λ (text : List ℕ). before ++ text) (sym (ap (λ (step : Step). step.text) is))

-- what a key leaves inside is what it leaves of the value
pub left_of_value : (table_for : List ℕ → Option (List ℕ)) (plain late : Option (List ℕ) → List Section)
    (forgot : SessionParts) (inside value : SessionValue) (key : Key) (stop : Stop) (output now : List ℕ) →
    forgot ≡ inside.game → inside ≡ value →
    IsLeft (script_for table_for forgot plain late) stop
    (key_step (script_for table_for forgot plain late) inside.session key) output now →
    IsLeft (script_for table_for value.game plain late) stop
    (key_step (script_for table_for value.game plain late) value.session key) output now
left_of_value table_for plain late forgot inside value key stop output now is shown left =
    subst (λ (session : SessionValue). IsLeft (script_for table_for session.game plain late) stop
    (key_step (script_for table_for session.game plain late) session.session key) output now) shown
    (subst (λ (game : SessionParts). IsLeft (script_for table_for game plain late) stop
    (key_step (script_for table_for game plain late) inside.session key) output now) is left)

-- something came of a key, or none: then it wasn't ignored
pub none_came : {N E : Type 0} (found : Option N) (next : N) → ◌≡◌ {A = Result (Option N) E} (Ok found) (Ok None) →
    found ≡ Some next → false ≡ true
none_came found next is some = absurd (cc)

pub error_came : {N E : Type 0} (result : Result (Option N) E) (error : E) → result ≡ Ok None → result ≡ Err error →
    false ≡ true
error_came result error is stopped = absurd (cc)
