use Rattle.ps_session.proofs.session.Session.resume.Goals as goal

pub invariant_of-result : goal.invariant_of-result
invariant_of-result g c =
    rw (c.requires, c.in_ok-history.ensures)
    (c.into_parts-location.ensures.basis, (c.into_parts-location.ensures.boards, c.into_parts-location.ensures.behind))

pub returns-clause-session : goal.returns-clause-session
returns-clause-session g c = rw c.in_ok-history.ensures c.into_parts-location.ensures.shown
