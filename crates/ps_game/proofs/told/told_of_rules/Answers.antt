use Rattle.ps_game.proofs.told.told_of_rules.Goals as goal

pub returns : goal.returns
returns c = rw c.requires.rules.same c.told_rules.ensures
