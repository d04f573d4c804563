use Rattle.std.proofs.Common.{◌≡◌, drop}
use Rattle.ps_model.specs.text.Faults.{first_fault}
use Rattle.ps_names.specs.LinesShown.{objects_shown}
use Rattle.ps_names.specs.Wholes.{no_layers}
use Rattle.ps_names.proofs.whole.fault_of_no_layer.Given as goal

abbrev pub invariant-loop-number : goal.invariant-loop-number
invariant-loop-number l = first_fault (no_layers (objects_shown (drop l.number l.objects)) (drop l.number l.places)) ≡
    first_fault (no_layers (objects_shown l.objects) l.places)
