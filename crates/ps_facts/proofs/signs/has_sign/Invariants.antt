use Rattle.std.proofs.Common.{◌≡◌, drop, map}
use Rattle.ps_text.specs.WordViews.{text_of}
use Rattle.ps_facts.specs.Signs.{has_sign}
use Rattle.ps_facts.proofs.signs.has_sign.Given as goal

-- the words passed by are others
abbrev pub invariant-loop-word : goal.invariant-loop-word
invariant-loop-word l = has_sign l.sign (map text_of (drop l.word-index l.words)) ≡ has_sign l.sign
    (map text_of l.words)
