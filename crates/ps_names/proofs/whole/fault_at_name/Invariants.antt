use Rattle.std.proofs.Common.{◌≡◌, drop, true}
use Rattle.ps_model.specs.text.Faults.{first_fault}
use Rattle.ps_names.specs.LegendNames.{legend_shown}
use Rattle.ps_names.specs.Wholes.{faults_of_lines, lines_of_name}
use Rattle.ps_names.proofs.whole.fault_at_name.Given as goal

abbrev pub invariant-loop-declared : goal.invariant-loop-declared
invariant-loop-declared l =
    first_fault (faults_of_lines true l.kind (lines_of_name (legend_shown (drop l.declared-index l.legend)) l.name)) ≡
    first_fault (faults_of_lines true l.kind (lines_of_name (legend_shown l.legend) l.name))
