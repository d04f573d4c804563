use Rattle.std.proofs.Common.{◌≡◌, ◌++◌}
use Rattle.std.specs.List.{flat_map, range_with_len}
use Rattle.ps_model.specs.session.Rooms.{window_row}
use Rattle.ps_screen.proofs.windows.add_window_of_rows.Given as goal

-- the rows passed by
abbrev pub invariant-loop-step : goal.invariant-loop-step
invariant-loop-step g l =
    l.output ≡ l.fn.output ++ flat_map (window_row l.look (g.B.Board.grid l.board) l.window)
    (range_with_len l.window.first_row l.step)
