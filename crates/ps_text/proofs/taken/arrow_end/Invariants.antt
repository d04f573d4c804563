use Rattle.std.proofs.Common.{◌≡◌, ◌-◌, suc, None, Some, length}
use Rattle.std.specs.Prelude.{IfSome}
use Rattle.ps_model.specs.text.Lines.{behind_arrow}
use Rattle.ps_model.specs.text.RuleWords.{rule_words_in}
use Rattle.ps_text.specs.WordRanges.{rule_words_with, IsWordRange}
use Rattle.ps_text.proofs.taken.arrow_end.Given as goal

abbrev pub invariant-loop-next : goal.invariant-loop-next
invariant-loop-next l =
    record {
      words : behind_arrow l.plain (rule_words_with l.plain l.next) ≡ behind_arrow l.plain (rule_words_in l.plain);
      range : IfSome l.next (IsWordRange l.plain 0);
    }

abbrev pub decreases-loop-next : goal.decreases-loop-next
decreases-loop-next l = elim l.next [ None ↦ 0 | Some range ↦ suc (length l.plain - range.end) ]
