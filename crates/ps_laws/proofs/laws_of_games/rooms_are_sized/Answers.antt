use Rattle.ps_laws.proofs.texts.SizedRooms.{game-rooms, game-without}
use Rattle.ps_laws.proofs.laws_of_games.rooms_are_sized.Goals as goal

pub returns : goal.returns
returns c = record { sized = game-rooms; without = game-without }
