use Rattle.ps_rulebook.proofs.PlayedGames.{games-play_as_written}
use Rattle.ps_rulebook.proofs.laws.games_play_as_written.Goals as goal

pub returns : goal.returns
returns c = games-play_as_written
