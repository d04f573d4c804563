use Rattle.std.proofs.Common.{◌≡◌, ◌++◌}
use Rattle.std.specs.List.{flat_map, range_with_len}
use Rattle.ps_screen.specs.PlainRows.{column_bytes}
use Rattle.ps_screen.proofs.windows.draw_part.Given as goal

-- the characters of the columns passed by
abbrev pub invariant-loop-step : goal.invariant-loop-step
invariant-loop-step g l =
    l.output ≡ l.fn.output ++ flat_map (column_bytes l.look (g.B.Board.grid l.board) l.row)
    (range_with_len l.window.first_column l.step)
