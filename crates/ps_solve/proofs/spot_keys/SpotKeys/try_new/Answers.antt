use Rattle.ps_solve.proofs.spot_keys.SpotKeys.try_new.Goals as goal

pub returns-clause-start : goal.returns-clause-start
returns-clause-start g c = c.in_ok-packing.ensures.start g.row.N

pub returns-clause-known : goal.returns-clause-known
returns-clause-known g c = c.in_ok-packing.ensures.known g.row.N
