use Rattle.std.proofs.Common.{Some}
use Rattle.ps_engine.proofs.Waking.{known_unknown}
use Rattle.ps_engine.proofs.quiet_groups.QuietGroups.keep.Goals as goal

pub invariant_of-self : goal.invariant_of-self
invariant_of-self g c = (
  c.in_ok-known.ensures.long,
  known_unknown (Some (g.B.Board.grid c.in_ok-copy.copy, g.B.Board.table c.in_ok-copy.copy))
      c.self.inside.sections.now c.in_ok-known.known.items c.in_ok-known.ensures.unknown,
)
