use Rattle.std.proofs.Common.{◌≡◌, ◌++◌, drop}
use Rattle.ps_names.specs.NamesShown.{layer_numbers_shown}
use Rattle.ps_names.proofs.sections.layers_of_numbers.Given as goal

abbrev pub invariant-loop-number : goal.invariant-loop-number
invariant-loop-number l = layer_numbers_shown l.layers.items ++ drop l.number-index l.numbers ≡ l.numbers
