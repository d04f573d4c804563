use Rattle.std.proofs.Common.{◌≡◌, ◌++◌, ◌-◌, ◌<◌, ℕ, List, suc, map, length, Some, None}
use Rattle.std.specs.Prelude.{All, IfSome}
use Rattle.ps_model.specs.text.LineNumbers.{line_at}
use Rattle.ps_model.specs.text.RuleWords.{words_under}
use Rattle.ps_text.specs.WordRanges.{words_found, IsWordRange}
use Rattle.ps_text.specs.WordViews.{span_of, text_of, span_at, bytes_at, texts_under, IsSliceOf, AreRisingSpans}
use Rattle.ps_text.proofs.RisingSpans.{rise_limit}
use Rattle.ps_text.proofs.cutting.words.Given as goal

abbrev pub invariant-loop-next : goal.invariant-loop-next
invariant-loop-next l =
    record {
      texts : map text_of l.words.items ++ map (bytes_at l.text) (words_found l.cut l.text l.next) ≡ texts_under l.cut
          l.text;
      spans : map span_of l.words.items ++ map (span_at (line_at l.source l.line)) (words_found l.cut l.text l.next) ≡
          map (span_at (line_at l.source l.line)) (words_under l.cut l.text);
      hold : All (λ (text : List ℕ). 0 < length text) (map text_of l.words.items);
      slices : All (IsSliceOf l.source) l.words.items;
      rising : AreRisingSpans l.row.start (rise_limit l.row.start l.text l.next) (map span_of l.words.items);
      next : IfSome l.next (IsWordRange l.text 0);
    }

abbrev pub decreases-loop-next : goal.decreases-loop-next
decreases-loop-next l = elim l.next [ None ↦ 0 | Some range ↦ suc (length l.text - range.end) ]
