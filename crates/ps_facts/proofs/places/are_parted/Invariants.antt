use Rattle.std.proofs.Common.{◌≡◌, drop, map}
use Rattle.ps_text.specs.WordViews.{text_of}
use Rattle.ps_facts.specs.Places.{are_parted}
use Rattle.ps_facts.proofs.places.are_parted.Given as goal

-- the words passed by part none
abbrev pub invariant-loop-word : goal.invariant-loop-word
invariant-loop-word l = are_parted (map text_of (drop l.word-index l.words)) ≡ are_parted (map text_of l.words)
