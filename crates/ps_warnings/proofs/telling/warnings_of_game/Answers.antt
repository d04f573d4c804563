use Rattle.std.proofs.Common.{◌≡◌, ◌∙◌, ℕ, List, Some, ap, subst, sym}
use Rattle.ps_model.specs.text.Lines.{lines_of}
use Rattle.ps_model.specs.game.Games.{game_of_lines}
use Rattle.ps_warnings.specs.Warnings.{warnings_of_lines}
use Rattle.ps_warnings.proofs.WarningsMade.{game_by_lines, text_fine}
use Rattle.ps_warnings.proofs.telling.warnings_of_game.Goals as goal

pub warnings_of_source-requires : goal.warnings_of_source-requires
warnings_of_source-requires c =
    subst (λ (text : List ℕ). game_of_lines (lines_of text) ≡ Some c.args.read.now) (sym c.in-Ok.ensures.text)
    (game_by_lines c.args.text.now c.args.read.now c.in-Ok.ensures.fine c.requires)

pub returns-in_ok-told-in-Ok : goal.returns-in_ok-told-in-Ok
returns-in_ok-told-in-Ok c =
    text_fine c.args.text.now c.in_ok-told-in-Ok.told.items c.in-Ok.ensures.fine
    (c.in_ok-told-in-Ok.ensures ∙ ap (λ (text : List ℕ). warnings_of_lines (lines_of text)) c.in-Ok.ensures.text)
