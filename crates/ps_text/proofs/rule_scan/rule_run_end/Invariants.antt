use Rattle.std.proofs.Common.{◌≡◌, drop, Some}
use Rattle.ps_model.specs.text.RuleWords.{rule_words_from}
use Rattle.ps_text.specs.WordRanges.{rule_words_behind, IsSolid}
use Rattle.ps_text.proofs.rule_scan.rule_run_end.Given as goal

abbrev pub invariant-loop-at : goal.invariant-loop-at
invariant-loop-at l =
    record {
      words : rule_words_behind l.line l.fn.start ≡ rule_words_from 0 l.at (Some l.fn.start) (drop l.at l.line);
      solid : IsSolid l.line l.fn.start l.at;
    }
