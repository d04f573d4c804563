use Rattle.std.proofs.Common.{◌≡◌, ◌++◌, ◌+◌, ◌*◌}
use Rattle.std.specs.Prelude.{encode_utf8}
use Rattle.std.specs.List.{flat_map, range_with_len}
use Rattle.ps_model.specs.board.Grid.{cell_at}
use Rattle.ps_model.specs.session.Frames.{shown_character}
use Rattle.ps_screen.proofs.rows.add_row.Given as goal

-- the characters of the columns passed by
abbrev pub invariant-loop-column : goal.invariant-loop-column
invariant-loop-column g l =
    l.output
    ≡ l.fn.output
    ++ flat_map (λ column. encode_utf8 (shown_character l.look
    (cell_at (g.B.Board.grid l.board) (column * (g.B.Board.grid l.board).height + l.row))))
    (range_with_len 0 l.column)
