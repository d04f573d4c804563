use Rattle.std.proofs.Common.{◌∙◌}
use Rattle.ps_program.specs.Axes.{direction_of}
use Rattle.ps_engine.proofs.Absent.{rule_lacking}
use Rattle.ps_engine.proofs.attempts.lacks_object.Goals as goal

pub returns-then-lacks : goal.returns-then-lacks
returns-then-lacks g c = λ e.
    let rule = c.args.rule.now in
    rule_lacking (g.B.Board.grid c.args.board.now) (g.B.Board.table c.args.board.now) (direction_of rule.axis)
    rule.rows c.as_slice-object-items.result.now c.loop-object.object-index _
    (c.as_slice-object-items.ensures ∙ rule.needs) c.loop-object-test.true (c.lacks.ensures c.if-lacks.true)
