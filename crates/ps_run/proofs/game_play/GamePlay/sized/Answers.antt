use Rattle.std.proofs.Common.{◌∙◌, ap}
use Rattle.ps_run.specs.GamesInPlay.{GameInPlay, script_in}
use Rattle.ps_run.proofs.game_play.GamePlay.sized.Goals as goal

pub returns-clause-script : goal.returns-clause-script
returns-clause-script c = c.self.invariant ∙ ap (λ (p : GameInPlay). script_in p) c.self.view_is

pub returns-clause-session : goal.returns-clause-session
returns-clause-session c = ap (λ (p : GameInPlay). p.session) c.self.view_is
