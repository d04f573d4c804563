use Rattle.ps_laws.proofs.texts.RulesOfNames.{rules_read-game}
use Rattle.ps_laws.proofs.texts.GamesOfTexts.{game-rules}
use Rattle.ps_laws.proofs.laws_of_games.rules_are_of_games.Goals as goal

pub returns : goal.returns
returns c = record { read = rules_read-game; games = game-rules }
