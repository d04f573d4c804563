use Rattle.ps_laws.proofs.sessions.RoomFrames.{sessions_without_rooms, seen_rooms_stay}
use Rattle.ps_laws.proofs.laws_of_rooms.rooms_in_sessions.Goals as goal

pub returns : goal.returns
returns c = record { without = sessions_without_rooms; stay = seen_rooms_stay }
