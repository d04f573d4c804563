use Rattle.std.proofs.Common.{◌≡◌, drop, map}
use Rattle.std.specs.Prelude.{fold}
use Rattle.ps_text.specs.WordViews.{text_of}
use Rattle.ps_facts.specs.Places.{ends_in}
use Rattle.ps_facts.specs.Signs.{is_sign}
use Rattle.ps_facts.proofs.places.ends_in.Given as goal

-- the words passed by are told, and the others lie ahead
abbrev pub invariant-loop-word : goal.invariant-loop-word
invariant-loop-word l = fold (λ last word. is_sign l.sign word) l.ends (map text_of (drop l.word-index l.before))
    ≡ ends_in l.sign (map text_of l.before)
