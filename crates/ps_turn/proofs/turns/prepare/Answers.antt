use Rattle.std.proofs.Common.{◌∙◌, List, sym, ap, ap₂}
use Rattle.std.specs.Prelude.{Option}
use Rattle.ps_model.specs.declared.pieces.Motion.{Motion}
use Rattle.ps_model.specs.declared.pieces.ObjectId.{ObjectId}
use Rattle.ps_model.specs.declared.play.Input.{Input}
use Rattle.ps_model.specs.board.Grid.{Grid}
use Rattle.ps_model.specs.board.Inputs.{with_motion}
use Rattle.ps_model.specs.board.Turns.{prepared}
use Rattle.ps_turn.proofs.turns.prepare.Goals as goal

pub returns-in-Some-clause-prepared : goal.returns-in-Some-clause-prepared
returns-in-Some-clause-prepared g c =
    let start : Grid = g.B.Board.grid c.args.board.now in
    c.give_motion.ensures.moved
    ∙ ap₂ (λ (moved : List ObjectId) (motion : Motion).
    with_motion moved motion start) c.players.ensures c.motion_for.ensures
    ∙ ap (λ (input : Option Input). prepared c.args.game.now.names input start) (sym c.in-Some.is)
