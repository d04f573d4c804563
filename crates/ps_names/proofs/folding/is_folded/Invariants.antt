use Rattle.std.proofs.Common.{◌≡◌, take}
use Rattle.ps_model.specs.text.Lines.{folded}
use Rattle.ps_names.proofs.folding.is_folded.Given as goal

abbrev pub invariant-loop-at : goal.invariant-loop-at
invariant-loop-at l = folded (take l.at l.letters) ≡ take l.at l.letters
