use Rattle.std.proofs.Common.{◌≡◌, drop, map}
use Rattle.std.specs.Prelude.{fold}
use Rattle.ps_text.specs.WordViews.{text_of}
use Rattle.ps_facts.specs.declared.signs.Sign.TheVariants.{Without}
use Rattle.ps_facts.specs.Places.{is_barred}
use Rattle.ps_facts.specs.Signs.{is_sign}
use Rattle.ps_facts.proofs.places.is_barred.Given as goal

-- the words passed by are told, and the others lie ahead
abbrev pub invariant-loop-word : goal.invariant-loop-word
invariant-loop-word l = fold (λ last word. is_sign Without word) l.barred (map text_of (drop l.word-index l.before))
    ≡ is_barred (map text_of l.before)
