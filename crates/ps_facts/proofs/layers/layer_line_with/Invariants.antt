use Rattle.std.proofs.Common.{IfSome}
use Rattle.ps_facts.specs.LayerWords.{IsInLayer}
use Rattle.ps_facts.proofs.layers.layer_line_with.Given as goal

-- the line that was found last has the word
abbrev pub invariant-loop-line : goal.invariant-loop-line
invariant-loop-line l = IfSome l.found (IsInLayer l.source l.name)
