use Rattle.std.proofs.Common.{◌≡◌, take}
use Rattle.ps_model.specs.text.Lines.{folded}
use Rattle.ps_facts.proofs.near.same_front.Given as goal

-- what has been passed by is the same, letters' case aside
abbrev pub invariant-loop-at : goal.invariant-loop-at
invariant-loop-at l = take l.at (folded l.a) ≡ take l.at (folded l.b)
