use Rattle.std.proofs.Common.{◌∙◌}
use Rattle.ps_session.proofs.Rests.{standing_same}
use Rattle.ps_session.proofs.again.level_again.Goals as goal

pub returns-clause-again : goal.returns-clause-again
returns-clause-again g c =
    standing_same c.in_ok-again.again c.args.level.now c.in_ok-again.ensures.entry c.in_ok-again.ensures.basis
    (c.in_ok-again.ensures.board ∙ c.in_ok-board.ensures.grid ∙ c.board.ensures.grid)
    c.in_ok-again.ensures.restart_board (c.in_ok-again.ensures.room ∙ c.room-room.ensures)
