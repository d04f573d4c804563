use Rattle.std.proofs.Common.{◌∙◌, ap}
use Rattle.ps_run.specs.declared.game_script.GameScript.{GameScript}
use Rattle.ps_run.proofs.game_play.GamePlay.resume.Goals as goal

pub resume-requires : goal.resume-requires
resume-requires c = ap (λ (script : GameScript). script.game.names) c.copied.ensures ∙ c.requires
