use Rattle.ps_laws.proofs.sessions.RoomFrames.{seen_rooms}
use Rattle.ps_laws.proofs.laws_of_rooms.rooms_show_players.Goals as goal

pub returns : goal.returns
returns c = seen_rooms
