use Rattle.std.proofs.Common.{◌≡◌, drop, map}
use Rattle.ps_text.specs.WordViews.{text_of}
use Rattle.ps_facts.specs.Signs.{is_any}
use Rattle.ps_facts.proofs.signs.is_any.Given as goal

-- the words passed by are others
abbrev pub invariant-loop-other : goal.invariant-loop-other
invariant-loop-other l = is_any (map text_of (drop l.other-index l.words)) l.word ≡ is_any (map text_of l.words) l.word
