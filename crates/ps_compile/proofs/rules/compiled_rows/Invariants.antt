use Rattle.std.proofs.Common.{◌≡◌, ◌++◌, drop}
use Rattle.std.specs.Prelude.{map, All}
use Rattle.ps_model.specs.meaning.CompiledRules.{compiled_cell}
use Rattle.ps_rules.specs.RulesShown.{tree_rows_shown}
use Rattle.ps_readings.specs.ReadingsShown.{reading_shown}
use Rattle.ps_program.specs.Axes.{LiesAlong}
use Rattle.ps_program.specs.ProgramShown.{rows_shown}
use Rattle.ps_compile.specs.TurnedRows.{row_from}
use Rattle.ps_compile.proofs.rules.compiled_rows.Given as goal

abbrev pub invariant-loop-row : goal.invariant-loop-row
invariant-loop-row l =
    All (LiesAlong l.axis) l.made.items
    × (rows_shown l.made.items ++ map (row_from l.backwards
    (compiled_cell l.names l.occurrences (reading_shown l.reading))) (tree_rows_shown (drop l.row-index l.rows))
    ≡ map (row_from l.backwards (compiled_cell l.names l.occurrences (reading_shown l.reading)))
    (tree_rows_shown l.rows))
