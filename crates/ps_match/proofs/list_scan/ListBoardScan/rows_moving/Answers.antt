use Rattle.ps_match.proofs.AllRows.{all_moving}
use Rattle.ps_match.proofs.list_scan.ListBoardScan.rows_moving.Goals as goal

pub returns : goal.returns
returns c = all_moving _ c.args._test.now c.size-width.result.1 c.below.result c.size-width.ensures.shape
    c.size-width.ensures.height c.below.ensures
