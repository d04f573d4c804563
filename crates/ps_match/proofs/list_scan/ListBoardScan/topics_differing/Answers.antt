use Rattle.ps_match.proofs.TopicSets.{all_differ}
use Rattle.ps_match.proofs.list_scan.ListBoardScan.topics_differing.Goals as goal

pub returns : goal.returns
returns c = all_differ _ _ c.all.result c.all.ensures
