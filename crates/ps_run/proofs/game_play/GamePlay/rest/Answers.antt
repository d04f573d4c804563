use Rattle.std.proofs.Common.{◌∙◌, ap}
use Rattle.ps_run.specs.GamesInPlay.{GameInPlay}
use Rattle.ps_run.specs.SizedPlays.{play_in}
use Rattle.ps_run.proofs.Scripts.{names_in}
use Rattle.ps_run.proofs.game_play.GamePlay.rest.Goals as goal

pub returns-clause-names : goal.returns-clause-names
returns-clause-names c =
    c.rest.ensures.names
    ∙ names_in (play_in c.self.inside.play) c.self.inside.script.game c.self.inside.script.plain.now
    c.self.inside.script.late.now c.self.invariant ∙ ap (λ (play : GameInPlay). play.game.names) c.self.view_is

pub returns-clause-session : goal.returns-clause-session
returns-clause-session c = c.rest.ensures.session ∙ ap (λ (play : GameInPlay). play.session) c.self.view_is
