use Rattle.ps_game.proofs.parts.entries_of.Goals as goal

pub returns-clause-read : goal.returns-clause-read
returns-clause-read c = rw (c.requires.levels.same, c.requires.levels_header) c.read_levels.ensures.read
