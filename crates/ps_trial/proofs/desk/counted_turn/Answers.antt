use Rattle.ps_trial.proofs.BoardsTaken.{not_done, not_counted, counted}
use Rattle.ps_trial.proofs.desk.counted_turn.Goals as goal

pub returns-in_default-clause-turned : goal.returns-in_default-clause-turned
returns-in_default-clause-turned g c = (
  g.B.Board.grid c.turn_again.new.after,
  rw c.deref.ensures at c.in_ok-turned.ensures.outcome,
  not_done c.args.counting c.in_ok-turned.turned _ _ c.in_default.not-Done,
)

pub returns-then-not-counts-clause-turned : goal.returns-then-not-counts-clause-turned
returns-then-not-counts-clause-turned g c = (
  g.B.Board.grid c.turn_again.new.after,
  rw c.deref.ensures at c.in_ok-turned.ensures.outcome,
  not_counted c.args.counting c.in_ok-turned.turned c.in-Done.done _ _ c.in-Done.is c.if-not-counts.ensures,
)

pub returns-clause-turned : goal.returns-clause-turned
returns-clause-turned g c = (
  g.B.Board.grid c.turn_again.new.after,
  rw c.deref.ensures at c.in_ok-turned.ensures.outcome,
  rw c.swap.ensures.x_after
      (counted c.args.counting c.in_ok-turned.turned c.in-Done.done _ _ c.in-Done.is c.if-not-counts.ensures),
)
