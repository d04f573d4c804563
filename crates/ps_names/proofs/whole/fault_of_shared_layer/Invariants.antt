use Rattle.std.proofs.Common.{◌≡◌, drop}
use Rattle.ps_model.specs.text.Faults.{first_fault}
use Rattle.ps_names.specs.LegendNames.{legend_shown}
use Rattle.ps_names.specs.MeaningSteps.{meanings_shown}
use Rattle.ps_names.specs.Wholes.{shared_layers}
use Rattle.ps_names.proofs.whole.fault_of_shared_layer.Given as goal

abbrev pub invariant-loop-place : goal.invariant-loop-place
invariant-loop-place l =
    first_fault (shared_layers l.layers (legend_shown (drop l.place l.legend))
    (meanings_shown (drop l.place l.meanings))) ≡ first_fault
    (shared_layers l.layers (legend_shown l.legend) (meanings_shown l.meanings))
