use Rattle.std.proofs.Common.{◌≡◌, drop, map}
use Rattle.ps_text.specs.WordViews.{text_of}
use Rattle.ps_facts.specs.Places.{comes_first}
use Rattle.ps_facts.proofs.places.comes_first.Given as goal

-- the words passed by are neither brackets nor the arrow
abbrev pub invariant-loop-word : goal.invariant-loop-word
invariant-loop-word l = comes_first l.sign (map text_of (drop l.word-index l.words)) ≡ comes_first l.sign
    (map text_of l.words)
