use Rattle.std.proofs.Common.{◌≡◌}
use Rattle.std.specs.Prelude.{find}
use Rattle.ps_model.specs.text.LineNumbers.{lines_between}
use Rattle.ps_model.specs.text.Preludes.{asks_for_rooms}
use Rattle.ps_sections.proofs.prelude.rooms_of.Given as goal

abbrev pub invariant-loop-line : goal.invariant-loop-line
invariant-loop-line l = find asks_for_rooms (lines_between l.source l.line l.fn.lines.end) ≡ find asks_for_rooms
    (lines_between l.source l.fn.lines.start l.fn.lines.end)
