use Rattle.std.proofs.Common.{◌≡◌, ℕ, List, Some}
use Rattle.ps_model.specs.declared.faults.Fault.{Fault as TheFault}
use Rattle.ps_model.specs.text.Faults.{first_fault}
use Rattle.ps_model.specs.game.Games.{game, faults}
use Rattle.ps_model.specs.declared.refusal.Refusal.{Refusal}
use Rattle.ps_model.specs.declared.refusal.Refusal.TheVariants.{Refused}
use Rattle.ps_game.proofs.Refusals.{refused-finds}
use Rattle.ps_game.proofs.WholeGame.{told_by_text, told_by_headings, told_by_lines, game_by_lines}
use Rattle.ps_game.proofs.game.read_game.Goals as goal

pub returns-in_err-source-clause-read : goal.returns-in_err-source-clause-read
returns-in_err-source-clause-read c =
    let text : List ℕ = c.args.text.now in
    let inner : Refusal = c.in_err-source.field-0.0 in
    let told : (f : TheFault) → inner ≡ Refused f → first_fault (faults text) ≡ Some f =
    λ f e. told_by_text text f (c.in_err-source.ensures.refused f e) in
    refused-finds c.from_residual.result inner (game text) (faults text) c.from_residual.ensures.1 told

pub returns-in_err-sections-clause-read : goal.returns-in_err-sections-clause-read
returns-in_err-sections-clause-read c =
    let text : List ℕ = c.args.text.now in
    let inner : Refusal = c.in_err-sections.field-0.0 in
    let told : (f : TheFault) → inner ≡ Refused f → first_fault (faults text) ≡ Some f =
    λ f e. told_by_headings text f c.in_ok-source.ensures.fine
    (rw (← c.in_ok-source.ensures.text) (c.in_err-sections.ensures.refused f e)) in
    refused-finds c.from_residual-in_err-sections.result inner (game text) (faults text)
    c.from_residual-in_err-sections.ensures.1 told

pub returns-in_err-game-clause-read : goal.returns-in_err-game-clause-read
returns-in_err-game-clause-read c =
    let text : List ℕ = c.args.text.now in
    let inner : Refusal = c.in_err-game.field-0.0 in
    let told : (f : TheFault) → inner ≡ Refused f → first_fault (faults text) ≡ Some f =
    λ f e. told_by_lines text f c.in_ok-source.ensures.fine
    (rw (← c.in_ok-source.ensures.text) (c.in_err-game.ensures.read.1 f e)) in
    refused-finds c.from_residual-in_err-game.result inner (game text) (faults text)
    c.from_residual-in_err-game.ensures.1 told

pub returns-clause-read : goal.returns-clause-read
returns-clause-read c = (
  game_by_lines c.args.text.now _ c.in_ok-source.ensures.fine
      (rw (← c.in_ok-source.ensures.text) c.in_ok-game.ensures.read.0),
  tt,
)
