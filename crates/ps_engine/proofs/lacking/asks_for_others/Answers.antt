use Rattle.std.proofs.lemmas.Bool.{not-true}
use Rattle.ps_engine.proofs.AskedFor.{idle_apart}
use Rattle.ps_engine.proofs.lacking.asks_for_others.Goals as goal

pub returns : goal.returns
returns g c = λ e.
    idle_apart (g.B.Board.grid c.args.board.now) (g.B.Board.table c.args.board.now) c.args.rule.now c.args.motions
    c.recall_shape.ensures.shape c.requires c.without.result c.without.ensures
    (c.is_empty.ensures.some (not-true c.is_empty.result e))
