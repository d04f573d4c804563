use Rattle.std.proofs.Common.{◌≡◌, ◌++◌, drop}
use Rattle.std.specs.Prelude.{map}
use Rattle.ps_model.specs.meaning.Wanted.{wanted_left}
use Rattle.ps_rules.specs.RulesShown.{items_shown, cell_shown}
use Rattle.ps_readings.specs.ReadingsShown.{reading_shown}
use Rattle.ps_readings.specs.WantedShown.{wanteds_shown}
use Rattle.ps_readings.proofs.wanted.left_of_cell.Given as goal

abbrev pub invariant-loop-item : goal.invariant-loop-item
invariant-loop-item l = wanteds_shown l.wanteds.items ++ map
    (wanted_left l.names l.occurrences (reading_shown l.reading)) (items_shown (drop l.item-index l.item-items)) ≡ map
    (wanted_left l.names l.occurrences (reading_shown l.reading)) (cell_shown l.cell).left
