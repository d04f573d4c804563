use Rattle.ps_laws.proofs.texts.RulesInParts.{rules_read-whole, game-whole}
use Rattle.ps_laws.proofs.laws_of_games.rules_have_whole_rows.Goals as goal

pub returns : goal.returns
returns c = record { read = rules_read-whole; games = game-whole }
