-- The readings that are still to come.
use Rattle.std.specs.Prelude.{List, ◌++◌, map}
use Rattle.std.specs.List.{flat_map}
use Rattle.ps_model.specs.meaning.Readings.{Reading, one_of_each}
use Rattle.ps_readings.specs.declared.readings.Readings.{Readings}
use Rattle.ps_readings.specs.ReadingsShown.{reading_shown}
use Rattle.ps_readings.specs.TurnsMade.{with_members, readings_of_turn}
use Rattle.ps_readings.specs.TurnsLeft.{turns_left}
use Rattle.ps_readings.specs.Wheels.{ways_left, lists_of}

-- the reading that was made last
abbrev pub made_last : Readings → Reading
made_last readings = reading_shown readings.reading

-- those of the turn in which it was made, and those of the turns after it
abbrev pub readings_left : Readings → List Reading
readings_left readings =
    map (with_members (made_last readings)) (ways_left readings.members.ended readings.members.wheels.items)
    ++ flat_map (readings_of_turn (one_of_each (lists_of readings.members.wheels.items))) (turns_left readings.turns)
