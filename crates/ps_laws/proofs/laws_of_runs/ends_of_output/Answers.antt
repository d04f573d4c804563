use Rattle.std.proofs.Common.{refl}
use Rattle.ps_laws.proofs.keys.Fronts.{output_of_ended, output_of_unended, output_once_ended, end_stays}
use Rattle.ps_laws.proofs.keys.Endings.{ends_otherwise, written_by_ending}
use Rattle.ps_laws.proofs.laws_of_runs.ends_of_output.Goals as goal

pub returns : goal.returns
returns c = record {
  ended = output_of_ended;
  unended = output_of_unended;
  once_ended = output_once_ended;
  quiet =
      λ script ending key. refl;
  stays = end_stays;
  otherwise = ends_otherwise;
  by_ending = written_by_ending;
}
