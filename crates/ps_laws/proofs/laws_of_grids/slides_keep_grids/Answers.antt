use Rattle.ps_laws.proofs.grids.KeptSlides.{slid-keeps}
use Rattle.ps_laws.proofs.laws_of_grids.slides_keep_grids.Goals as goal

pub returns : goal.returns
returns c = slid-keeps
