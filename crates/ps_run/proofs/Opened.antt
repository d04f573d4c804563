-- The opening of a game in play.
use Rattle.std.proofs.Common.{◌≡◌, ◌∙◌, ℕ, List, ◌++◌, refl, sym, ap, append_assoc}
use Rattle.std.specs.Prelude.{codes}
use Rattle.ps_model.specs.board.Turns.{Script}
use Rattle.ps_model.specs.session.Frames.{written_line}
use Rattle.ps_model.specs.session.Sessions.{Session, Step}
use Rattle.ps_model.specs.session.StartSteps.{enter}
use Rattle.ps_model.specs.game.Outputs.{opening_step}
use Rattle.ps_laws.proofs.sessions.SessionSteps.{openings_are_entered}
use Rattle.ps_program.specs.declared.program.CompiledSection.{CompiledSection}
use Rattle.ps_stage.specs.Standings.{SessionParts}
use Rattle.ps_run.specs.GamesInPlay.{script_on}

title_of : (game : SessionParts) (plain late : List CompiledSection) → (script_on game plain late).title ≡ game.title
unfolding script_on
title_of game plain late = refl

first_of : (game : SessionParts) (plain late : List CompiledSection) →
    (script_on game plain late).first_entry ≡ game.first_entry
unfolding script_on
first_of game plain late = refl

pub opened_session : (game : SessionParts) (plain late : List CompiledSection) (session : Session) →
    session ≡ (enter (script_on game plain late) game.first_entry).session →
    session ≡ (opening_step (script_on game plain late)).session
opened_session game plain late session e =
    let script : Script = script_on game plain late in
    e
    ∙ ap (λ (entry : ℕ). (enter script entry).session) (sym (first_of game plain late))
    ∙ sym (ap (λ (step : Step). step.session) (openings_are_entered script))

-- the title, and then what the entry writes at which the game begins
pub opened_text :
    (game : SessionParts) (plain late : List CompiledSection) (before titled now : List ℕ) →
    titled ≡ before ++ written_line (codes "= ") game.title →
    now ≡ titled ++ (enter (script_on game plain late) game.first_entry).text →
    now ≡ before ++ (opening_step (script_on game plain late)).text
opened_text game plain late before titled now title text =
    let script : Script = script_on game plain late in
    let entered : List ℕ = (enter script script.first_entry).text in
    text
    ∙ ap (λ (entry : ℕ). titled ++ (enter script entry).text) (sym (first_of game plain late))
    ∙ ap (λ (line : List ℕ). line ++ entered) title
    ∙ append_assoc before (written_line (codes "= ") game.title) entered
    ∙ ap (λ (own : List ℕ). before ++ (written_line (codes "= ") own ++ entered)) (sym (title_of game plain late))
    ∙ ap (λ (step : Step). before ++ step.text) (sym (openings_are_entered script))
