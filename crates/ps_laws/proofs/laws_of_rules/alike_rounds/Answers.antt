use Rattle.ps_laws.proofs.alike.EqualPrograms.{round-same}
use Rattle.ps_laws.proofs.alike.AlikeRounds.{alike-kept, alike-back, alike-through, alike-append, alike-joined}
use Rattle.ps_laws.proofs.alike.AlikeRounds.{alike-forwards, alike-idle}
use Rattle.ps_laws.proofs.laws_of_rules.alike_rounds.Goals as goal

pub returns-clause-kept : goal.returns-clause-kept
returns-clause-kept c = alike-kept

pub returns-clause-same : goal.returns-clause-same
returns-clause-same c = round-same

pub returns-clause-back : goal.returns-clause-back
returns-clause-back c = alike-back

pub returns-clause-through : goal.returns-clause-through
returns-clause-through c = alike-through

pub returns-clause-appended : goal.returns-clause-appended
returns-clause-appended c = alike-append

pub returns-clause-joined : goal.returns-clause-joined
returns-clause-joined c = alike-joined

pub returns-clause-forwards : goal.returns-clause-forwards
returns-clause-forwards c = alike-forwards

pub returns-clause-idle : goal.returns-clause-idle
returns-clause-idle c = alike-idle
