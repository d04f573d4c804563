use Rattle.std.proofs.Common.{◌≡◌, drop}
use Rattle.std.specs.List.{enumerate_from, flat_map}
use Rattle.ps_model.specs.names.DeclarationFaults.{naming_faults}
use Rattle.ps_model.specs.text.Faults.{first_fault}
use Rattle.ps_names.specs.LegendNames.{legend_shown}
use Rattle.ps_names.specs.MeaningSteps.{meanings_shown, faults_at}
use Rattle.ps_names.proofs.naming.fault_of_naming.Given as goal

abbrev pub invariant-loop-place : goal.invariant-loop-place
invariant-loop-place l =
    first_fault (flat_map (faults_at (legend_shown l.legend) (meanings_shown l.meanings))
    (enumerate_from l.place (legend_shown (drop l.place l.legend))))
    ≡ first_fault (naming_faults (legend_shown l.legend) (meanings_shown l.meanings))
