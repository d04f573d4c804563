use Rattle.std.proofs.Common.{◌≡◌, drop}
use Rattle.std.specs.Prelude.{find}
use Rattle.ps_warnings.specs.NearWords.{is_near}
use Rattle.ps_warnings.specs.PreludeWords.{word_text}
use Rattle.ps_warnings.proofs.prelude_words.first_near.Given as goal

-- the words passed by are others
abbrev pub invariant-loop-one : goal.invariant-loop-one
invariant-loop-one l = find (λ one. is_near l.word (word_text one)) (drop l.one-index l.words) ≡ find
    (λ one. is_near l.word (word_text one)) l.words
