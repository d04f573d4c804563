use Rattle.ps_session.proofs.session.Session.rest.Goals as goal

pub invariant_of-result : goal.invariant_of-result
invariant_of-result g c = rw (c.of-names.ensures, c.names.ensures.names, c.game.ensures) c.self.invariant
