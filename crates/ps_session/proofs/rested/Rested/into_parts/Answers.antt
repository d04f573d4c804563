use Rattle.std.proofs.Common.{ap}
use Rattle.ps_session.specs.RestedSessions.{RestedSession}
use Rattle.ps_session.proofs.rested.Rested.into_parts.Goals as goal

pub returns : goal.returns
returns g c = record {
  basis = rw (← c.self.view_is) c.self.invariant.0;
  boards = rw (← c.self.view_is) c.self.invariant.1.0;
  behind = c.self.invariant.1.1;
  shown = ap (λ (r : RestedSession). r.session) c.self.view_is;
}
