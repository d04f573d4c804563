use Rattle.std.proofs.Common.{◌≡◌, ◌≤◌, drop}
use Rattle.std.specs.List.{enumerate_from, flat_map}
use Rattle.ps_model.specs.names.DeclarationFaults.{faults_of_layer, layer_faults}
use Rattle.ps_model.specs.text.Faults.{first_fault}
use Rattle.ps_model.specs.declared.limits.TheConstants.{LAYER_LIMIT}
use Rattle.ps_names.specs.LayersShown.{layers_shown}
use Rattle.ps_names.proofs.layers.fault_of_layers.Given as goal

abbrev pub invariant-loop-number : goal.invariant-loop-number
invariant-loop-number l =
    record {
      few : l.number ≤ LAYER_LIMIT;
      faults : first_fault (flat_map faults_of_layer (enumerate_from l.number (layers_shown (drop l.number l.layers))))
          ≡ first_fault (layer_faults (layers_shown l.layers));
    }
