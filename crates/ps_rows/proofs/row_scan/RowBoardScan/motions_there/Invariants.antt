use Rattle.ps_rows.specs.Showing.{grid_shown}
use Rattle.ps_rows.proofs.LayerMotions.{HasMotionsBelow}
use Rattle.ps_rows.proofs.row_scan.RowBoardScan.motions_there.Given as goal

abbrev pub invariant-loop-layer : goal.invariant-loop-layer
invariant-loop-layer g l =
    let b = l.self in
    HasMotionsBelow (grid_shown b.members.table.items b.width b.planes.height b.layers b.planes.words.items) l.layer
    l.motions
