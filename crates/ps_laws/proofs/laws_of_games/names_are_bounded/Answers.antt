use Rattle.ps_laws.proofs.texts.BoundedNames.{names_read-bounded, game-bounded}
use Rattle.ps_laws.proofs.laws_of_games.names_are_bounded.Goals as goal

pub returns : goal.returns
returns c = record { read = names_read-bounded; games = game-bounded }
