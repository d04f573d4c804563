use Rattle.ps_causes.proofs.finding.own_cause.Goals as goal

pub returns-in-NoSection : goal.returns-in-NoSection
returns-in-NoSection c = c.missing_cause.ensures c.args.fault.line
