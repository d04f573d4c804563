use Rattle.std.proofs.Common.{◌≡◌, drop}
use Rattle.std.specs.Prelude.{filter}
use Rattle.std.specs.List.{filter_map}
use Rattle.ps_model.specs.board.RulePrograms.{is_in_part, rule_in}
use Rattle.ps_rules.specs.RulesShown.{lines_shown}
use Rattle.ps_compile.specs.GroupsWith.{groups_with}
use Rattle.ps_compile.specs.ProgramsMade.{compact_groups}
use Rattle.ps_compile.proofs.program.compiled_groups.Given as goal

abbrev pub invariant-loop-line : goal.invariant-loop-line
invariant-loop-line l = groups_with l.names l.groups
    (filter (is_in_part l.part) (filter_map rule_in (lines_shown (drop l.line-index l.lines)))) ≡ compact_groups
    l.names l.part (lines_shown l.lines)
