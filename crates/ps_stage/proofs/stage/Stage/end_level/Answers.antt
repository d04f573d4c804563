use Rattle.ps_stage.specs.Standings.{play_of}
use Rattle.ps_stage.proofs.stage.Stage.end_level.Goals as goal

pub returns-clause-changes : goal.returns-clause-changes
returns-clause-changes g c = λ first behind. record {
  came = λ history. c.in_ok-location.ensures.came (behind (play_of history first));
  stopped = tt;
  basis = c.in_ok-location.ensures.basis;
  fits = c.in_ok-location.ensures.boards first.entry;
  elsewhere = tt;
  touched = tt;
}
