use Rattle.std.proofs.Common.{◌≡◌, drop}
use Rattle.std.specs.List.{list_any}
use Rattle.std.specs.Str.{bytes_eq}
use Rattle.ps_warnings.specs.PreludeWords.{word_text}
use Rattle.ps_warnings.proofs.prelude_words.is_one_of.Given as goal

-- the words passed by are others
abbrev pub invariant-loop-one : goal.invariant-loop-one
invariant-loop-one l = list_any (λ one. bytes_eq l.word (word_text one)) (drop l.one-index l.words) ≡ list_any
    (λ one. bytes_eq l.word (word_text one)) l.words
