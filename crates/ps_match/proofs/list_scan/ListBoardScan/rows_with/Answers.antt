use Rattle.ps_match.proofs.AllRows.{all_rows}
use Rattle.ps_match.proofs.list_scan.ListBoardScan.rows_with.Goals as goal

pub returns : goal.returns
returns c = all_rows _ c.args._object.now c.size-width.result.1 c.below.result c.size-width.ensures.shape
    c.size-width.ensures.height c.below.ensures
