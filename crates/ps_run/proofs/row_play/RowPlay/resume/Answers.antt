use Rattle.std.proofs.Common.{◌∙◌, ap}
use Rattle.ps_rulebook.specs.PlayedGames.{meant_of}
use Rattle.ps_stage.specs.Standings.{SessionParts}
use Rattle.ps_run.proofs.Scripts.{script_on_boards}
use Rattle.ps_run.proofs.row_play.RowPlay.resume.Goals as goal

pub resume-requires : goal.resume-requires
resume-requires g c =
    ap (λ (game : SessionParts). game.names) (c.in_ok-stage.ensures.game ∙ c.on_boards.ensures) ∙ c.requires.names

pub returns-clause-script : goal.returns-clause-script
returns-clause-script g c =
    script_on_boards c.args.script.game c.on_boards.result c.in_ok-session.session.game c.args.sides
    c.args.script.plain.now c.args.script.late.now c.in_ok-rules.rules.plain c.in_ok-rules.rules.late
    c.on_boards.ensures (c.in_ok-session.ensures.game ∙ c.in_ok-stage.ensures.game)
    (ap meant_of c.in_ok-rules.ensures.plain) (ap meant_of c.in_ok-rules.ensures.late)
