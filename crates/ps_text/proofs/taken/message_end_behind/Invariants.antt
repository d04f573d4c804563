use Rattle.std.proofs.Common.{◌≡◌, ◌-◌, ◌∷◌, [], length, codes, find}
use Rattle.std.specs.Str.{IsCharBoundary}
use Rattle.ps_model.specs.text.Lines.{is_word, end_of_word}
use Rattle.ps_text.specs.WordRanges.{rule_words_behind}
use Rattle.ps_text.proofs.taken.message_end_behind.Given as goal

abbrev pub invariant-loop-word : goal.invariant-loop-word
invariant-loop-word l =
    record {
      place : end_of_word (find (is_word l.plain (codes "message" ∷ [])) (rule_words_behind l.plain l.at)) ≡
          end_of_word (find (is_word l.plain (codes "message" ∷ [])) (rule_words_behind l.plain l.fn.from));
      cuttable : IsCharBoundary l.plain l.at;
    }

abbrev pub decreases-loop-word : goal.decreases-loop-word
decreases-loop-word l = length l.plain - l.at
