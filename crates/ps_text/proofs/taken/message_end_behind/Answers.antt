use Rattle.std.proofs.Common.{rules, ◌≡◌, ◌∷◌, [], true, refl, codes}
use Rattle.std.specs.Prelude.{slice_range}
use Rattle.std.specs.List.{list_any}
use Rattle.std.specs.Str.{bytes_eq}
use Rattle.ps_model.specs.text.Lines.{folded}
use Rattle.ps_text.proofs.NamedWords.{text_behind_word}
use Rattle.ps_text.proofs.taken.message_end_behind.Goals as goal

pub returns-then-is_message_word-clause-start : goal.returns-then-is_message_word-clause-start
returns-then-is_message_word-clause-start c =
    let word = c.in-Some.word in
    let named : list_any (bytes_eq (folded (slice_range c.args.plain.now word.start word.end))) (codes "message" ∷ [])
    ≡ true = search rules in
    text_behind_word c.args.plain.now c.loop-word.at (codes "message" ∷ []) word c.in-Some.ensures.range refl named
