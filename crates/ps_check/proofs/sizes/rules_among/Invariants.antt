use Rattle.std.proofs.Common.{◌≡◌, ◌≤◌, ◌+◌, drop, length}
use Rattle.std.specs.List.{filter_map}
use Rattle.ps_model.specs.board.RulePrograms.{rule_in}
use Rattle.ps_rules.specs.RulesShown.{lines_shown}
use Rattle.ps_check.proofs.sizes.rules_among.Given as goal

-- the rules passed by are counted, and the others lie ahead
abbrev pub invariant-loop-line : goal.invariant-loop-line
invariant-loop-line l = record {
  counted : l.count + length (filter_map rule_in (lines_shown (drop l.line-index l.lines))) ≡ length
      (filter_map rule_in (lines_shown l.lines));
  few : l.count ≤ l.line-index;
}
