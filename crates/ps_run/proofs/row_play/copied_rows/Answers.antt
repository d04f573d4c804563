use Rattle.std.proofs.Common.{◌∙◌, ap}
use Rattle.ps_stage.specs.Standings.{SessionParts}
use Rattle.ps_run.proofs.row_play.copied_rows.Goals as goal

pub copied-requires : goal.copied-requires
copied-requires g c =
    ap (λ (game : SessionParts). game.names) (c.in_ok-stage.ensures.game ∙ c.on_boards.ensures) ∙ c.requires.names
