use Rattle.ps_view.proofs.OneSize.{one_size_is_as_the_whole}
use Rattle.ps_view.proofs.laws.one_size_is_as_the_whole.Goals as goal

pub returns : goal.returns
returns c = one_size_is_as_the_whole
