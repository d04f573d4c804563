use Rattle.ps_levels.specs.EntriesShown.{entries_shown}
use Rattle.ps_stage.proofs.EntriesFound.{fit_any}
use Rattle.ps_stage.proofs.game.SessionGame.new.Goals as goal

pub returns-clause-fit : goal.returns-clause-fit
returns-clause-fit c = fit_any c.args.names.now (entries_shown c.args.entries.now) c.requires.playable
