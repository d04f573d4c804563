use Rattle.ps_laws.proofs.sessions.AgainTurns.{key_turns-longest, start_turns-longest, all_key_turns-longest}
use Rattle.ps_laws.proofs.sessions.AgainTurns.{all_start_turns-longest}
use Rattle.ps_laws.proofs.laws_of_sessions.again_turns.Goals as goal

pub returns-clause-key : goal.returns-clause-key
returns-clause-key c = key_turns-longest

pub returns-clause-start : goal.returns-clause-start
returns-clause-start c = start_turns-longest

pub returns-clause-all_of_key : goal.returns-clause-all_of_key
returns-clause-all_of_key c = all_key_turns-longest

pub returns-clause-all_of_start : goal.returns-clause-all_of_start
returns-clause-all_of_start c = all_start_turns-longest
