use Rattle.ps_laws.proofs.sessions.LevelNumbers.{answers_from_start, first_level_is_start, found_levels_are_numbered}
use Rattle.ps_laws.proofs.sessions.LevelNumbers.{answers_are_true_of_levels, lacked_levels_are_beyond}
use Rattle.ps_laws.proofs.sessions.LevelNumbers.{numbered_levels_are_found}
use Rattle.ps_laws.proofs.laws_of_runs.runs_from_levels.Goals as goal

pub returns : goal.returns
returns c = record {
  numbered = found_levels_are_numbered;
  found = numbered_levels_are_found;
  lacked = lacked_levels_are_beyond;
  first = first_level_is_start;
  start = answers_from_start;
  true_of_level = answers_are_true_of_levels;
}
