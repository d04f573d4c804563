use Rattle.ps_game.proofs.told.told_of_levels.Goals as goal

pub returns : goal.returns
returns c = rw (c.requires.levels.same, c.requires.levels_header) c.told_levels.ensures
