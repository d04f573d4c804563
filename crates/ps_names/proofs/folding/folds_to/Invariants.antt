use Rattle.std.proofs.Common.{◌≡◌, drop}
use Rattle.std.specs.Str.{bytes_eq}
use Rattle.ps_model.specs.text.Lines.{folded}
use Rattle.ps_names.proofs.folding.folds_to.Given as goal

abbrev pub invariant-loop-at : goal.invariant-loop-at
invariant-loop-at l = bytes_eq (folded (drop l.at l.letters)) (drop l.at l.wanted) ≡ bytes_eq (folded l.letters)
    l.wanted
