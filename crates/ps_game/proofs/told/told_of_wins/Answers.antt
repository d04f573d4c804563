use Rattle.ps_game.proofs.told.told_of_wins.Goals as goal

pub returns : goal.returns
returns c = rw c.requires.wins.same c.told_wins.ensures
