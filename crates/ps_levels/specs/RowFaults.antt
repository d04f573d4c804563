-- Faults of a row, by what its characters stand for.
use Rattle.std.specs.Prelude.{ℕ, Option, List, ◌++◌}
use Rattle.std.specs.List.{list_any}
use Rattle.ps_model.specs.declared.faults.Fault.{Fault}
use Rattle.ps_model.specs.declared.faults.FaultKind.TheVariants.{UnknownGlyph, PropertyGlyph, TooLarge}
use Rattle.ps_model.specs.text.Faults.{when}
use Rattle.ps_model.specs.session.LevelFaults.{is_too_large, row_faults, rows_faults, too_many}
use Rattle.ps_model.specs.names.Meanings.{is_property}
use Rattle.ps_model.specs.names.Names.{Meaning, Names}
use Rattle.ps_model.specs.text.Lines.{Line}
use Rattle.ps_levels.specs.Cells.{is_unknown}

-- the faults of a row at a place in a level of that width, whose characters up to the width stand for these
abbrev pub faults_of_meanings : List (Option Meaning) → ℕ → ℕ → ℕ → List Fault
faults_of_meanings meanings width place number =
    when (list_any is_unknown meanings) UnknownGlyph number ++
    (when (list_any is_property meanings) PropertyGlyph number ++ when (is_too_large width place) TooLarge number)

-- the faults of a level `width` columns wide at a place among the entries, by its first row and the rows below it
abbrev pub level_faults_by : Names → ℕ → ℕ → Line → List Line → List Fault
level_faults_by names width place first below =
    row_faults names width 0 first ++ (too_many place first ++ rows_faults names width 1 below)
