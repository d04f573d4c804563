-- The turns that are still to come.
use Rattle.std.specs.Prelude.{List, ◌++◌, map, drop}
use Rattle.std.specs.List.{flat_map}
use Rattle.ps_model.specs.meaning.Readings.{Reading}
use Rattle.ps_readings.specs.declared.turns.Turns.{Turns}
use Rattle.ps_readings.specs.TurnsMade.{turn, turns_in}
use Rattle.ps_readings.specs.Wheels.{ways_left}

abbrev pub turns_left : Turns → List Reading
turns_left turns =
    map (turn turns.direction) (ways_left turns.ways.ended turns.ways.wheels.items)
    ++ flat_map (turns_in turns.occurrences.now) (drop turns.faced turns.directions.items)
