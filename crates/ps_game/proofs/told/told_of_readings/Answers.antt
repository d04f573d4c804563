use Rattle.std.proofs.Common.{rules, ◌≡◌, ◌∙◌, List, ap, sym}
use Rattle.std.specs.List.{filter_map}
use Rattle.ps_model.specs.board.RulePrograms.{rule_in}
use Rattle.ps_model.specs.declared.texts.Section.TheVariants.{Rules}
use Rattle.ps_model.specs.rules.RuleFaults.{rule_faults}
use Rattle.ps_model.specs.rules.SourceRules.{RuleLine}
use Rattle.ps_model.specs.text.Lines.{lines_of}
use Rattle.ps_model.specs.text.Sections.{section_lines}
use Rattle.ps_game.specs.ToldFaults.{told_readings, rules_of_lines}
use Rattle.ps_game.proofs.ToldPhases.{rules_fine, rules_faulty}
use Rattle.ps_game.proofs.told.told_of_readings.Goals as goal

pub returns-in_ok-told-in-Ok : goal.returns-in_ok-told-in-Ok
returns-in_ok-told-in-Ok c =
    let names = c.args.names.now in
    let lines = lines_of c.args.source.now in
    rules_fine (rule_faults names (section_lines lines Rules)) c.in_ok-told-in-Ok.told.items names
    (rules_of_lines names lines) c.in-Ok.ensures.1.0
    (c.in_ok-told-in-Ok.ensures ∙ ap (λ (read : List RuleLine). told_readings names (filter_map rule_in read))
    c.in-Ok.ensures.0)

pub returns-in-Err-Refused : goal.returns-in-Err-Refused
returns-in-Err-Refused c =
    let names = c.args.names.now in
    let lines = lines_of c.args.source.now in
    c.new.ensures.items ∙ rules_faulty (rule_faults names (section_lines lines Rules)) c.in-Err-Refused.fault names
    (rules_of_lines names lines) (c.in-Err-Refused.ensures.1.1 c.in-Err-Refused.fault (search rules))
