use Rattle.std.proofs.Common.{ℕ, Option, List, refl, length}
use Rattle.ps_model.specs.board.Grid.{Grid}
use Rattle.ps_model.specs.board.Attempts.{combinations_on}
use Rattle.ps_program.specs.CommandsShown.{commands_shown}
use Rattle.ps_program.specs.Axes.{direction_of}
use Rattle.ps_engine.specs.Choosing.{rows_meaning}
use Rattle.ps_engine.specs.RulesInRoom.{rule_meaning}
use Rattle.ps_engine.proofs.Attempting.{attempt_none}
use Rattle.ps_engine.proofs.Within.{writer_room}
use Rattle.ps_engine.proofs.attempts.attempt_by_kind.Goals as goal

pub returns-then-not-rule-clause-attempt : goal.returns-then-not-rule-clause-attempt
returns-then-not-rule-clause-attempt g c = c.attempt_commands.ensures.attempt

pub attempt_commands-requires-clause-long : goal.attempt_commands-requires-clause-long
attempt_commands-requires-clause-long g c = c.requires

pub attempt_commands-requires-clause-commands : goal.attempt_commands-requires-clause-commands
attempt_commands-requires-clause-commands g c = c.if-not-rule.true

pub returns-then-not-rule-clause-fixed : goal.returns-then-not-rule-clause-fixed
returns-then-not-rule-clause-fixed g c = c.attempt_commands.ensures.fixed

pub returns-then-lacks_object-clause-attempt : goal.returns-then-lacks_object-clause-attempt
returns-then-lacks_object-clause-attempt g c =
    let grid : Grid = g.B.Board.grid c.args.work.now.board.now in
    let table : Option (List ℕ) = g.B.Board.table c.args.work.now.board.now in
    let rule = c.args.rule.now in
    attempt_none (direction_of rule.axis) (rows_meaning table rule.rows) rule.rewrites
    (commands_shown rule.commands.value) grid c.args.work.now.queue.now
    (combinations_on grid (rule_meaning table rule)) (c.lacks_object.ensures c.if-lacks_object.true)

pub returns-then-lacks_object-clause-fixed : goal.returns-then-lacks_object-clause-fixed
returns-then-lacks_object-clause-fixed g c = refl

pub attempt_writer-requires-clause-writer : goal.attempt_writer-requires-clause-writer
attempt_writer-requires-clause-writer g c = c.in-Some.is

pub attempt_writer-requires-clause-rewrites : goal.attempt_writer-requires-clause-rewrites
attempt_writer-requires-clause-rewrites g c = c.if-not-rule.false

pub returns-in-Some-clause-attempt : goal.returns-in-Some-clause-attempt
returns-in-Some-clause-attempt g c = c.attempt_writer.ensures.attempt

pub returns-in-Some-clause-fixed : goal.returns-in-Some-clause-fixed
returns-in-Some-clause-fixed g c = c.attempt_writer.ensures.fixed

pub attempt_rows-requires-clause-long : goal.attempt_rows-requires-clause-long
attempt_rows-requires-clause-long g c = c.requires

pub attempt_rows-requires-clause-rewrites : goal.attempt_rows-requires-clause-rewrites
attempt_rows-requires-clause-rewrites g c = c.if-not-rule.false

pub returns-clause-attempt : goal.returns-clause-attempt
returns-clause-attempt g c = c.attempt_rows.ensures.attempt

pub returns-clause-fixed : goal.returns-clause-fixed
returns-clause-fixed g c = c.attempt_rows.ensures.fixed

pub attempt_writer-requires-clause-scratch : goal.attempt_writer-requires-clause-scratch
attempt_writer-requires-clause-scratch g c =
    writer_room c.args.rule.now.rows c.args.rule.now.writer c.in-Some.writer (length c.args.work.now.scratch.now)
    c.args.rule.now.alone c.in-Some.is c.requires
