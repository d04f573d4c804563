use Rattle.std.proofs.Common.{◌∙◌, ℕ, Option, List, ap, refl, sym}
use Rattle.ps_model.specs.board.Grid.{Grid}
use Rattle.ps_model.specs.board.Attempts.{combinations_on}
use Rattle.ps_program.specs.CommandsShown.{commands_shown}
use Rattle.ps_program.specs.Axes.{direction_of}
use Rattle.ps_engine.specs.Choosing.{rows_meaning}
use Rattle.ps_engine.specs.OnePart.{rows_parts}
use Rattle.ps_engine.specs.RulesInRoom.{rule_meaning}
use Rattle.ps_engine.proofs.Attempting.{attempt_none}
use Rattle.ps_engine.proofs.attempts.attempt.Goals as goal

pub returns-then-lacks_last-clause-attempt : goal.returns-then-lacks_last-clause-attempt
returns-then-lacks_last-clause-attempt g c =
    let grid : Grid = g.B.Board.grid c.args.work.now.board.now in
    let table : Option (List ℕ) = g.B.Board.table c.args.work.now.board.now in
    let rule = c.args.rule.now in
    attempt_none (direction_of rule.axis) (rows_meaning table rule.rows) rule.rewrites
    (commands_shown rule.commands.value) grid c.args.work.now.queue.now
    (combinations_on grid (rule_meaning table rule)) (c.lacks_last.ensures c.if-lacks_last.true)

pub returns-then-lacks_last-clause-fixed : goal.returns-then-lacks_last-clause-fixed
returns-then-lacks_last-clause-fixed g c = refl

pub attempt_by_kind-requires : goal.attempt_by_kind-requires
attempt_by_kind-requires g c = c.requires

pub returns-clause-attempt : goal.returns-clause-attempt
returns-clause-attempt g c = c.attempt_by_kind.ensures.attempt

pub attempt_part-requires-clause-only : goal.attempt_part-requires-clause-only
attempt_part-requires-clause-only g c = ap rows_parts (sym c.as_slice.ensures) ∙ c.in-Some.ensures.only

pub attempt_part-requires-clause-whole : goal.attempt_part-requires-clause-whole
attempt_part-requires-clause-whole g c = c.in-Some.ensures.whole

pub attempt_part-requires-clause-rewrites : goal.attempt_part-requires-clause-rewrites
attempt_part-requires-clause-rewrites g c = c.if-rule.true

pub attempt_part-requires-clause-scratch : goal.attempt_part-requires-clause-scratch
attempt_part-requires-clause-scratch g c = c.requires

pub returns-in-Some-clause-attempt : goal.returns-in-Some-clause-attempt
returns-in-Some-clause-attempt g c = c.attempt_part.ensures.attempt

pub returns-in-Some-clause-fixed : goal.returns-in-Some-clause-fixed
returns-in-Some-clause-fixed g c = c.attempt_part.ensures.fixed
