use Rattle.std.proofs.Common.{ℕ, Option, List, refl}
use Rattle.ps_model.specs.board.Grid.{Grid}
use Rattle.ps_model.specs.board.Attempts.{combinations_on}
use Rattle.ps_program.specs.CommandsShown.{commands_shown}
use Rattle.ps_program.specs.Axes.{direction_of}
use Rattle.ps_engine.specs.Choosing.{rows_meaning}
use Rattle.ps_engine.specs.RulesInRoom.{rule_meaning}
use Rattle.ps_engine.proofs.Attempting.{attempt_none}
use Rattle.ps_engine.proofs.rounds.attempt_asked.Goals as goal

pub asks_for_others-requires : goal.asks_for_others-requires
asks_for_others-requires g c = c.args.run.now.all_motions

pub returns-then-asks_for_others-clause-attempt : goal.returns-then-asks_for_others-clause-attempt
returns-then-asks_for_others-clause-attempt g c =
    let grid : Grid = g.B.Board.grid c.args.run.now.board.now in
    let table : Option (List ℕ) = g.B.Board.table c.args.run.now.board.now in
    let rule = c.args.rule.now in
    attempt_none (direction_of rule.axis) (rows_meaning table rule.rows) rule.rewrites
    (commands_shown rule.commands.value) grid c.args.run.now.queue.now
    (combinations_on grid (rule_meaning table rule)) (c.asks_for_others.ensures c.if-asks_for_others.true)

pub returns-then-asks_for_others-clause-fixed : goal.returns-then-asks_for_others-clause-fixed
returns-then-asks_for_others-clause-fixed g c = refl

pub attempt-requires : goal.attempt-requires
attempt-requires g c = c.requires

pub returns-clause-attempt : goal.returns-clause-attempt
returns-clause-attempt g c = c.attempt.ensures.attempt

pub returns-clause-fixed : goal.returns-clause-fixed
returns-clause-fixed g c = c.attempt.ensures.fixed
