use Rattle.std.proofs.Common.{refl}
use Rattle.ps_run.proofs.Playing.{written_front}
use Rattle.ps_run.proofs.writing.write_bytes.Goals as goal

pub returns-in-Err-clause-stops : goal.returns-in-Err-clause-stops
returns-in-Err-clause-stops g c = written_front _ _ _ _ c.in-Err.ensures.front.0 refl
    c.in-Err.ensures.front.1 c.in-Err.ensures.front.2 c.in-Err.ensures.front.3
    c.in-Err.ensures.none_empty c.in-Err.ensures.counts c.in-Err.ensures.shorts c.in-Err.ensures.front.4
    c.in-Err.ensures.few
