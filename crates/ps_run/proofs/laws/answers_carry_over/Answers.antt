use Rattle.ps_run.proofs.Answering as proved
use Rattle.ps_run.proofs.laws.answers_carry_over.Goals as goal

pub returns : goal.returns
returns c = proved.answers_carry_over
