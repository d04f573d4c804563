-- A game that starts at an entry.
use Rattle.std.proofs.Common.{◌≡◌, ◌∙◌, ◌++◌, ℕ, Option, List, [], sym, ap}
use Rattle.ps_model.specs.board.Programs.{Section}
use Rattle.ps_model.specs.session.Sessions.{Session, Step, after}
use Rattle.ps_model.specs.session.StartSteps.{enter}
use Rattle.ps_board.specs.Histories.{BoardShown}
use Rattle.ps_stage.specs.Locations.{location_shown}
use Rattle.ps_stage.specs.Standings.{SessionParts, Standing, script_for}
use Rattle.ps_stage.specs.StepsShown.{came}
use Rattle.ps_stage.specs.declared.locations.Location.{Location}
use Rattle.ps_session.specs.Histories.{grids_of}

-- the text behind no other is the text of the step
pub begun_text : (step : Step) (session : Session) (before text output now : List ℕ) → before ≡ [] →
    after before step ≡ came session text → now ≡ output ++ text → now ≡ output ++ step.text
begun_text step session before text output now empty is moved =
    moved ∙ ap (λ (text : List ℕ). output ++ text) (sym (ap (λ (step : Step). step.text) is)
    ∙ ap (λ (before : List ℕ). before ++ step.text) empty)

-- what the entry came to on the stage is what it comes to in the game
pub started_session : (table_for : List ℕ → Option (List ℕ)) (plain late : Option (List ℕ) → List Section)
    (begun game : SessionParts) (entry : ℕ) (boards : List BoardShown) (location : Location Standing) → begun ≡ game →
    boards ≡ [] → location_shown [] location ≡ (enter (script_for table_for begun plain late) entry).session →
    location_shown (grids_of boards) location ≡ (enter (script_for table_for game plain late) entry).session
started_session table_for plain late begun game entry boards location same none is =
    ap (λ (boards : List BoardShown). location_shown (grids_of boards) location) none ∙ is
    ∙ ap (λ (parts : SessionParts). (enter (script_for table_for parts plain late) entry).session) same

pub started_text : (table_for : List ℕ → Option (List ℕ)) (plain late : Option (List ℕ) → List Section)
    (begun game : SessionParts) (entry : ℕ) (output now : List ℕ) → begun ≡ game →
    now ≡ output ++ (enter (script_for table_for begun plain late) entry).text →
    now ≡ output ++ (enter (script_for table_for game plain late) entry).text
started_text table_for plain late begun game entry output now same is =
    is ∙ ap (λ (parts : SessionParts). output ++ (enter (script_for table_for parts plain late) entry).text) same
