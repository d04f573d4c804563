use Rattle.std.proofs.Common.{rules, ◌≡◌, ◌∙◌, ◌∷◌, [], false, codes, sym, ap}
use Rattle.ps_model.specs.text.Lines.{behind_arrow, is_word}
use Rattle.ps_model.specs.text.RuleWords.{rule_words_in}
use Rattle.ps_text.specs.WordRanges.{rule_words_behind}
use Rattle.ps_text.proofs.NamedWords.{past_word, found_from_start}
use Rattle.ps_text.proofs.taken.arrow_end.Goals as goal

pub loop-next-preserved : goal.loop-next-preserved
loop-next-preserved c =
    let line = c.args.plain.now in
    let word = c.in-Some.word in
    let other : is_word line (codes "->" ∷ []) (word.start, word.end) ≡ false = search rules in
    let before : behind_arrow line ((word.start, word.end) ∷ rule_words_behind line word.end) ≡ behind_arrow line
    (rule_words_in line) = search rules in
    record {
      words = ap (behind_arrow line) (sym c.next_rule_word-next.ensures.words)
          ∙ sym (past_word line (word.start, word.end) (rule_words_behind line word.end) other) ∙ before;
      range = found_from_start line word.end c.next_rule_word-next.result c.next_rule_word-next.ensures.range;
    }
