use Rattle.ps_laws.proofs.common.Stages.{split_all-one_of_each, one_of_each-append}
use Rattle.ps_laws.proofs.common.StagedReadings.{by_stages, one_in_other, counted}
use Rattle.ps_laws.proofs.laws_of_runs.readings_by_stages.Goals as goal

pub returns : goal.returns
returns c = record {
  moves = split_all-one_of_each;
  members = split_all-one_of_each;
  moves_in_two = one_of_each-append;
  members_in_two = one_of_each-append;
  stages = by_stages;
  one_in_other = one_in_other;
  counted = counted;
}
