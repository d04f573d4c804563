use Rattle.std.proofs.Common.{◌≡◌, ◌++◌, drop}
use Rattle.ps_model.specs.names.NamesRead.{layer_numbers}
use Rattle.ps_names.proofs.sections.layer_numbers.Given as goal

abbrev pub invariant-loop-place : goal.invariant-loop-place
invariant-loop-place l = l.layers.items ++ layer_numbers (drop l.place-index l.places) ≡ layer_numbers l.places
