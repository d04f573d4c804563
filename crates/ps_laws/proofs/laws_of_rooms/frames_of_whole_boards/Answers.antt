use Rattle.ps_laws.proofs.sessions.RoomFrames.{whole_boards, without_rooms, large_rooms}
use Rattle.ps_laws.proofs.laws_of_rooms.frames_of_whole_boards.Goals as goal

pub returns : goal.returns
returns c = record { whole = whole_boards; without = without_rooms; large = large_rooms }
