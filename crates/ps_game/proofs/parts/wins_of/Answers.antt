use Rattle.ps_game.proofs.parts.wins_of.Goals as goal

pub returns : goal.returns
returns c = rw c.requires.wins.same c.read_wins.ensures
