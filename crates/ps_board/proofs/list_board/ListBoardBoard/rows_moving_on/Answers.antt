use Rattle.ps_board.proofs.AllRows.{none_outside}
use Rattle.ps_board.proofs.list_board.ListBoardBoard.rows_moving_on.Goals as goal

pub returns : goal.returns
returns c = λ row under none. absurd (none_outside c.args.self.now.height c.below.result c.args.self.now.rows
    c.below.ensures row under none)
