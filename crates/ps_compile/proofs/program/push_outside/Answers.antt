use Rattle.std.proofs.Common.{rules, ◌≡◌, ◌∙◌, ap, map}
use Rattle.ps_model.specs.board.RuleSections.{Group}
use Rattle.ps_rules.specs.RulesShown.{lines_shown}
use Rattle.ps_program.specs.ProgramShown.{groups_shown}
use Rattle.ps_compile.specs.ProgramsMade.{compact_outside}
use Rattle.ps_compile.proofs.MadeSections.{outside-made}
use Rattle.ps_compile.proofs.program.push_outside.Goals as goal

pub returns : goal.returns
returns c =
    let made : map Group (groups_shown c.in_ok-groups.groups.items) ≡ compact_outside c.args.names.now c.args.part
    (lines_shown c.args.lines.now) =
    ap (map Group) c.in_ok-groups.ensures ∙ outside-made c.args.names.now c.args.part (lines_shown c.args.lines.now) in
    search (rules, made)
