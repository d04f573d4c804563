use Rattle.std.proofs.Common.{codes}
use Rattle.ps_names.proofs.bounds.MembersBelow.{kept_below}
use Rattle.ps_names.proofs.names.Names.players.Goals as goal

pub returns-clause-below : goal.returns-clause-below
returns-clause-below c =
    kept_below _ _ (codes "player") _ _ c.self.invariant.bounded c.self.view_is c.self.invariant.players_kept
    c.as_slice.ensures.value
