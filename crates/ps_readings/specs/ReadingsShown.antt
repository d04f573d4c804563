-- Readings of the code as those of the definitions.
use Rattle.ps_model.specs.meaning.Readings as model
use Rattle.ps_readings.specs.declared.reading.Reading.{Reading}

abbrev pub reading_shown : Reading → model.Reading
reading_shown reading = record {
  direction = reading.direction;
  moves = reading.moves.items;
  members =
      reading.members.items;
}
