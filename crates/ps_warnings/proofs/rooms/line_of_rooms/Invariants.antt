use Rattle.std.proofs.Common.{◌≡◌}
use Rattle.ps_model.specs.text.LineNumbers.{lines_between}
use Rattle.ps_warnings.specs.RoomWarnings.{line_of_rooms}
use Rattle.ps_warnings.proofs.rooms.line_of_rooms.Given as goal

-- the lines passed by ask for none
abbrev pub invariant-loop-line : goal.invariant-loop-line
invariant-loop-line l =
    line_of_rooms (lines_between l.source l.line l.fn.lines.end)
    ≡ line_of_rooms (lines_between l.source l.fn.lines.start l.fn.lines.end)
