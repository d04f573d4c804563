use Rattle.ps_laws.proofs.sessions.AlikeScripts.{alike_turns, alike_openings, alike_keys, alike_runs, alike_games}
use Rattle.ps_laws.proofs.sessions.AlikeScripts.{alike_programs_of_games}
use Rattle.ps_laws.proofs.laws_of_sessions.alike_scripts.Goals as goal

pub returns : goal.returns
returns c = record {
  turns = alike_turns;
  opening = alike_openings;
  keys = alike_keys;
  runs = alike_runs;
  games =
      alike_games;
  programs = alike_programs_of_games;
}
