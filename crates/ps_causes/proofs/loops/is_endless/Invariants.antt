use Rattle.std.proofs.Common.{◌+◌}
use Rattle.ps_facts.specs.declared.signs.Sign.TheVariants.{LoopEnd}
use Rattle.ps_causes.specs.Loops.{NoneBetween, is_line_of}
use Rattle.ps_causes.proofs.loops.is_endless.Given as goal

-- no line passed by ends a loop
abbrev pub invariant-loop-below : goal.invariant-loop-below
invariant-loop-below l = NoneBetween (is_line_of LoopEnd l.source) (l.line + 1) l.below
