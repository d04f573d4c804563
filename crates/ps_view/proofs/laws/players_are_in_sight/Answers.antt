use Rattle.ps_view.proofs.Sight.{players_are_drawn, players_are_in_sight}
use Rattle.ps_view.proofs.laws.players_are_in_sight.Goals as goal

pub returns : goal.returns
returns c = record { part = players_are_in_sight; drawn = players_are_drawn }
