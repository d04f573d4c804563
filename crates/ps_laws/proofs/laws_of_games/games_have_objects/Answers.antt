use Rattle.ps_laws.proofs.texts.ObjectsThere.{names_read-have, game-has}
use Rattle.ps_laws.proofs.laws_of_games.games_have_objects.Goals as goal

pub returns : goal.returns
returns c = record { read = names_read-have; games = game-has }
