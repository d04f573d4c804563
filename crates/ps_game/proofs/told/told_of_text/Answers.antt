use Rattle.std.proofs.Common.{rules, ◌≡◌, ◌∙◌, ℕ, List, ap}
use Rattle.ps_model.specs.text.Lines.{lines_of}
use Rattle.ps_game.specs.ToldFaults.{told_of_lines}
use Rattle.ps_game.proofs.ToldPhases.{text_fine, text_faulty}
use Rattle.ps_game.proofs.told.told_of_text.Goals as goal

pub returns-in_ok-told-in-Ok : goal.returns-in_ok-told-in-Ok
returns-in_ok-told-in-Ok c =
    text_fine c.args.text.now c.in_ok-told-in-Ok.told.items c.in-Ok.ensures.fine
    (c.in_ok-told-in-Ok.ensures ∙ ap (λ (bytes : List ℕ). told_of_lines (lines_of bytes)) c.in-Ok.ensures.text)

pub returns-in_ok-told-in-Err-Refused : goal.returns-in_ok-told-in-Err-Refused
returns-in_ok-told-in-Err-Refused c =
    text_faulty c.args.text.now c.in_ok-told-in-Err-Refused.told.items c.in-Err-Refused.fault
    (c.in-Err-Refused.ensures.refused c.in-Err-Refused.fault (search rules)) c.in_ok-told-in-Err-Refused.ensures
