use Rattle.std.proofs.Common.{◌≡◌, drop, map}
use Rattle.std.specs.Prelude.{fold}
use Rattle.ps_text.specs.WordViews.{text_of}
use Rattle.ps_facts.specs.Places.{seen_behind, is_in_cell}
use Rattle.ps_facts.proofs.places.is_in_cell.Given as goal

-- the words passed by are told, and the others lie ahead
abbrev pub invariant-loop-word : goal.invariant-loop-word
invariant-loop-word l = fold (seen_behind l.name) l.seen (map text_of (drop l.word-index l.before)) ≡ is_in_cell l.name
    (map text_of l.before)
