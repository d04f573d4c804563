use Rattle.ps_laws.proofs.keys.Fronts.{front_grows, front_of_output, front_in_pieces, front_of_more}
use Rattle.ps_laws.proofs.laws_of_runs.fronts_of_output.Goals as goal

pub returns : goal.returns
returns c = record {
  grows = front_grows;
  of_output = front_of_output;
  in_pieces = front_in_pieces;
  of_more =
      front_of_more;
}
