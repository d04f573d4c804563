use Rattle.std.proofs.Common.{◌≡◌, ◌++◌, drop}
use Rattle.std.specs.Prelude.{map}
use Rattle.ps_model.specs.meaning.CompiledRules.{compiled_cell}
use Rattle.ps_rules.specs.RulesShown.{part_shown}
use Rattle.ps_readings.specs.ReadingsShown.{reading_shown}
use Rattle.ps_program.specs.ProgramShown.{cell_shown}
use Rattle.ps_compile.proofs.rules.compiled_cells.Given as goal

abbrev pub invariant-loop-cell : goal.invariant-loop-cell
invariant-loop-cell l = map cell_shown l.made.items ++ map
    (compiled_cell l.names l.occurrences (reading_shown l.reading)) (part_shown (drop l.cell-index l.part)) ≡ map
    (compiled_cell l.names l.occurrences (reading_shown l.reading)) (part_shown l.part)
