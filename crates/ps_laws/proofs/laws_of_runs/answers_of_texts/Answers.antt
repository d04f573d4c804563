use Rattle.ps_laws.proofs.runs.RunsNotAllowed.{answers_are_true_of_texts}
use Rattle.ps_laws.proofs.laws_of_runs.answers_of_texts.Goals as goal

pub returns : goal.returns
returns c = answers_are_true_of_texts
