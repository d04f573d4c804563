use Rattle.ps_laws.proofs.sessions.SessionSteps.{turns_are_outcomes, key_turns-limited, start_turns-limited}
use Rattle.ps_laws.proofs.sessions.SessionSteps.{key_turns-by_outcome, start_turns-by_outcome, done_with_history}
use Rattle.ps_laws.proofs.sessions.SessionSteps.{undo_takes_latest, undo_of_nothing}
use Rattle.ps_laws.proofs.laws_of_sessions.session_steps.Goals as goal

pub returns-clause-turns : goal.returns-clause-turns
returns-clause-turns c = turns_are_outcomes

pub returns-clause-key_limit : goal.returns-clause-key_limit
returns-clause-key_limit c = key_turns-limited

pub returns-clause-start_limit : goal.returns-clause-start_limit
returns-clause-start_limit c = start_turns-limited

pub returns-clause-key_turns : goal.returns-clause-key_turns
returns-clause-key_turns c = key_turns-by_outcome

pub returns-clause-start_turns : goal.returns-clause-start_turns
returns-clause-start_turns c = start_turns-by_outcome

pub returns-clause-done : goal.returns-clause-done
returns-clause-done c = done_with_history

pub returns-clause-undo : goal.returns-clause-undo
returns-clause-undo c = undo_takes_latest

pub returns-clause-undo_of_nothing : goal.returns-clause-undo_of_nothing
returns-clause-undo_of_nothing c = undo_of_nothing
