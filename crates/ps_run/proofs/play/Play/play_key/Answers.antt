use Rattle.std.proofs.Common.{◌∙◌, Err, ap}
use Rattle.ps_run.proofs.Gathering.{unflushed}
use Rattle.ps_run.proofs.play.Play.play_key.Goals as goal

pub returns-in-Err-flush-clause-stops : goal.returns-in-Err-flush-clause-stops
returns-in-Err-flush-clause-stops g c = unflushed c.in-Err-flush.fault _ _ _ _
    (λ memory. c.flush.ensures.fault (c.in-Err-flush.is ∙ ap Err memory)) c.in-Err-flush.ensures.stops
