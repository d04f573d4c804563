use Rattle.ps_laws.proofs.common.Chains.{chains_slide}
use Rattle.ps_laws.proofs.laws_of_boards.chains_slide.Goals as goal

pub returns : goal.returns
returns c = chains_slide
