use Rattle.std.proofs.Common.{rules, ◌≡◌, ◌∙◌}
use Rattle.ps_model.specs.text.Lines.{lines_of}
use Rattle.ps_game.specs.ToldFaults.{faults_of_names, names_of_lines, told_below_names}
use Rattle.ps_game.proofs.ToldPhases.{names_fine, one_alone}
use Rattle.ps_game.proofs.told.told_of_sections.Goals as goal

pub returns-in_ok-told-in-Ok : goal.returns-in_ok-told-in-Ok
returns-in_ok-told-in-Ok c =
    names_fine (lines_of c.args.source.now) c.in-Ok.names c.in_ok-told-in-Ok.told.items c.in-Ok.ensures.0
    c.in-Ok.ensures.1.0 c.in_ok-told-in-Ok.ensures

pub returns-in_ok-told-in-Err-Refused : goal.returns-in_ok-told-in-Err-Refused
returns-in_ok-told-in-Err-Refused c =
    let lines = lines_of c.args.source.now in
    one_alone (faults_of_names lines) (told_below_names (names_of_lines lines) lines) c.in_ok-told-in-Err-Refused.told.items
    c.in-Err-Refused.fault (c.in-Err-Refused.ensures.1.1 c.in-Err-Refused.fault (search rules)) c.in_ok-told-in-Err-Refused.ensures
