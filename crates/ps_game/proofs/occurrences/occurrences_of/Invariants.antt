use Rattle.std.proofs.Common.{◌≡◌, ◌++◌, drop}
use Rattle.std.specs.List.{filter_map}
use Rattle.ps_model.specs.board.RulePrograms.{rule_in}
use Rattle.ps_rules.specs.RulesShown.{lines_shown}
use Rattle.ps_game.proofs.occurrences.occurrences_of.Given as goal

abbrev pub invariant-loop-line : goal.invariant-loop-line
invariant-loop-line l =
    l.rules.items ++ filter_map rule_in (lines_shown (drop l.line-index l.lines)) ≡ filter_map rule_in
    (lines_shown l.lines)
