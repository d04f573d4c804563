use Rattle.std.proofs.Common.{◌≡◌, ◌++◌, map, take}
use Rattle.ps_view.specs.Corners.{row_part}
use Rattle.ps_view.specs.Frames.{texts_of}
use Rattle.ps_view.proofs.parts.add_row_parts.Given as goal

-- the parts of the rows passed by are added
abbrev pub invariant-loop-row : goal.invariant-loop-row
invariant-loop-row l =
    l.screen.items
    ≡ l.fn.screen.items
    ++ map (row_part l.across.width l.across.room l.across.left) (take l.row-index (texts_of l.rows))
