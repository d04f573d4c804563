use Rattle.ps_command.proofs.TracesEnded.{traced_to_end}
use Rattle.ps_command.proofs.tracing.trace.Goals as goal

pub returns-in-Ok-clause-ended : goal.returns-in-Ok-clause-ended
returns-in-Ok-clause-ended g c =
    traced_to_end c.args.start.text.now c.args.start.level _ _ _ c.in-Ok._ending c.in-Ok.ensures.rightly
