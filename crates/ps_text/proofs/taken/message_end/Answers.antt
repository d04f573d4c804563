use Rattle.std.proofs.Common.{rules, ◌≡◌, ◌∷◌, [], true, refl, codes}
use Rattle.std.specs.Prelude.{slice_range}
use Rattle.std.specs.List.{list_any}
use Rattle.std.specs.Str.{bytes_eq}
use Rattle.std.proofs.lemmas.Str.{IsCharBoundary-start}
use Rattle.ps_model.specs.text.Lines.{folded}
use Rattle.ps_text.proofs.NamedWords.{text_behind_word}
use Rattle.ps_text.proofs.taken.message_end.Goals as goal

pub next_word-requires-clause-cuttable : goal.next_word-requires-clause-cuttable
next_word-requires-clause-cuttable c = IsCharBoundary-start c.args.plain.now c.requires

pub returns-clause-start : goal.returns-clause-start
returns-clause-start c =
    let first = c.in-Some.first in
    let named : list_any (bytes_eq (folded (slice_range c.args.plain.now first.start first.end)))
    (codes "message" ∷ []) ≡ true = search rules in
    text_behind_word c.args.plain.now 0 (codes "message" ∷ []) first c.in-Some.ensures.range refl named
