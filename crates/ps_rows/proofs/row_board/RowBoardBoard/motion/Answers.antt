use Rattle.std.proofs.Common.{◌*◌}
use Rattle.ps_rows.specs.Showing.{motion_shown}
use Rattle.ps_rows.proofs.Rests.{motion_read}
use Rattle.ps_rows.proofs.row_board.RowBoardBoard.motion.Goals as goal

pub returns : goal.returns
unfolding motion_shown
returns g c =
    let b = c.args.self.now in
    rw (c.first_motion.ensures, c.motions_from-first.ensures.first)
    (motion_read b.members.table.items b.layers b.planes.height b.planes.words.items (b.width * b.planes.height)
    c.args.cell c.args.layer.0 c.requires.0 c.requires.1 b.motions)
