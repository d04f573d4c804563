use Rattle.ps_model.specs.board.Turns.{Script}
use Rattle.std.proofs.Common.{Some}
use Rattle.ps_turn.specs.States.{script_with}
use Rattle.ps_trial.proofs.BoardsTaken.{always, same_if_unchanged}
use Rattle.ps_trial.proofs.desk.turn_from.Goals as goal

pub returns-clause-outcome : goal.returns-clause-outcome
returns-clause-outcome g c = (
  g.B.Board.grid c.turn.new.after,
  c.in_ok-turned.ensures.outcome,
  always c.in_ok-turned.turned (g.B.Board.grid c.args.before.now) (g.B.Board.grid c.turn.new.after)
      c.in_ok-turned.ensures.undone,
)

pub returns-clause-same : goal.returns-clause-same
returns-clause-same g c =
    let table = g.B.Board.table c.args.before.now in
    let script : Script =
    script_with c.args.game.now (g.R.Rules.meant c.args.rules.now.plain table)
    (g.R.Rules.meant c.args.rules.now.late table) in
    same_if_unchanged script (Some c.args.input) c.in_ok-turned.turned (g.B.Board.grid c.args.before.now)
    (g.B.Board.grid c.turn.new.after) c.in_ok-turned.ensures.outcome c.turn.ensures.sides
