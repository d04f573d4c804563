use Rattle.std.proofs.Common.{◌≡◌, drop, map}
use Rattle.ps_text.specs.WordViews.{text_of}
use Rattle.ps_warnings.specs.RepeatedRules.{same_words}
use Rattle.ps_warnings.proofs.written_rules.same_words.Given as goal

-- the words passed by are the same
abbrev pub invariant-loop-at : goal.invariant-loop-at
invariant-loop-at l =
    same_words (map text_of (drop l.at l.words)) (map text_of (drop l.at l.others))
    ≡ same_words (map text_of l.words) (map text_of l.others)
