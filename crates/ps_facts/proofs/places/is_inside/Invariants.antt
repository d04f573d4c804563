use Rattle.std.proofs.Common.{◌≡◌, drop, map}
use Rattle.std.specs.Prelude.{fold}
use Rattle.ps_text.specs.WordViews.{text_of}
use Rattle.ps_facts.specs.Places.{inside_behind, is_inside}
use Rattle.ps_facts.proofs.places.is_inside.Given as goal

-- the words passed by are told, and the others lie ahead
abbrev pub invariant-loop-word : goal.invariant-loop-word
invariant-loop-word l = fold inside_behind l.inside (map text_of (drop l.word-index l.before)) ≡ is_inside
    (map text_of l.before)
