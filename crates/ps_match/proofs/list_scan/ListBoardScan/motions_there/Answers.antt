use Rattle.ps_match.proofs.AllMotions.{no_motion_outside}
use Rattle.ps_match.proofs.list_scan.ListBoardScan.motions_there.Goals as goal

pub returns : goal.returns
returns c = λ test place is off. absurd (no_motion_outside c.all.result c.all.ensures test place is off)
