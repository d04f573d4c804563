use Rattle.std.proofs.Common.{◌≡◌, ◌++◌, drop}
use Rattle.std.specs.Prelude.{map}
use Rattle.ps_model.specs.meaning.CompiledRules.{compiled_cell}
use Rattle.ps_rules.specs.RulesShown.{tree_row_shown}
use Rattle.ps_readings.specs.ReadingsShown.{reading_shown}
use Rattle.ps_program.specs.ProgramShown.{parts_shown}
use Rattle.ps_compile.specs.TurnedRows.{part_from}
use Rattle.ps_compile.proofs.rules.compiled_parts.Given as goal

abbrev pub invariant-loop-part : goal.invariant-loop-part
invariant-loop-part l =
    parts_shown l.made.items ++ map (part_from l.backwards
    (compiled_cell l.names l.occurrences (reading_shown l.reading))) (tree_row_shown (drop l.part-index l.row))
    ≡ map (part_from l.backwards (compiled_cell l.names l.occurrences (reading_shown l.reading))) (tree_row_shown l.row)
