use Rattle.ps_laws.proofs.sessions.SessionSteps.{texts_join, empty_text, openings_are_entered, fronts_are_texts}
use Rattle.ps_laws.proofs.sessions.SessionSteps.{silent_bytes, keys_write}
use Rattle.ps_laws.proofs.laws_of_sessions.session_texts.Goals as goal

pub returns-clause-joined : goal.returns-clause-joined
returns-clause-joined c = texts_join

pub returns-clause-empty : goal.returns-clause-empty
returns-clause-empty c = empty_text

pub returns-clause-opening : goal.returns-clause-opening
returns-clause-opening c = openings_are_entered

pub returns-clause-front : goal.returns-clause-front
returns-clause-front c = fronts_are_texts

pub returns-clause-silent : goal.returns-clause-silent
returns-clause-silent c = silent_bytes

pub returns-clause-keys : goal.returns-clause-keys
returns-clause-keys c = keys_write
