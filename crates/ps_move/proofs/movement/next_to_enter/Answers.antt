use Rattle.std.proofs.Common.{ℕ, refl}
use Rattle.ps_model.specs.declared.pieces.Direction.TheVariants.{Down}
use Rattle.ps_model.specs.board.Grid.{Grid}
use Rattle.ps_move.specs.Entering.{Comes, IsNext}
use Rattle.ps_move.proofs.Entering.{if_some, next_up, next_left, next_right, next_down, wanted_by_none}
use Rattle.ps_move.proofs.Movers.{none_moves}
use Rattle.ps_move.proofs.movement.next_to_enter.Goals as goal

pub returns-in-Some-clause-some : goal.returns-in-Some-clause-some
returns-in-Some-clause-some g c =
    next_up (g.B.Board.grid c.args.board.now) (c.args.layer).0 c.args.to c.in-Some.from
    c.requires.shape c.in-Some.ensures.some

pub returns-in-Some-comer-clause-some : goal.returns-in-Some-comer-clause-some
returns-in-Some-comer-clause-some g c =
    next_left (g.B.Board.grid c.args.board.now) (c.args.layer).0 c.args.to c.in-Some-comer.from
    c.requires.shape (c.in_default.ensures.none refl) c.in-Some-comer.ensures.some

pub returns-in-Some-comer-2-clause-some : goal.returns-in-Some-comer-2-clause-some
returns-in-Some-comer-2-clause-some g c =
    next_right (g.B.Board.grid c.args.board.now) (c.args.layer).0 c.args.to c.in-Some-comer-2.from
    c.requires.shape
    (c.in_default.ensures.none refl) (c.in_default-comer.ensures.none refl) c.in-Some-comer-2.ensures.some

pub returns-clause-some : goal.returns-clause-some
returns-clause-some g c =
    let grid : Grid = g.B.Board.grid c.args.board.now in
    let layer : ℕ = (c.args.layer).0 in
    if_some (Comes grid layer c.args.to Down) (IsNext grid layer c.args.to)
    (λ from. next_down grid layer c.args.to from c.requires.shape
    (c.in_default.ensures.none refl) (c.in_default-comer.ensures.none refl) (c.in_default-comer-2.ensures.none refl))
    c.comer-4.result c.comer-4.ensures.some

pub returns-clause-none : goal.returns-clause-none
returns-clause-none g c = λ none.
    wanted_by_none (g.B.Board.grid c.args.board.now) (c.args.layer).0 c.args.to c.requires.shape
    (c.in_default.ensures.none refl) (c.comer-4.ensures.none none)
    (c.in_default-comer.ensures.none refl) (c.in_default-comer-2.ensures.none refl)

pub returns-then-is_empty-clause-none : goal.returns-then-is_empty-clause-none
returns-then-is_empty-clause-none g c = λ _ from aims.
    none_moves (g.B.Board.grid c.args.board.now) (c.args.layer).0 c.rows_moving_on.result c.requires.shape
    c.rows_moving_on.ensures (c.is_empty.ensures.none c.if-is_empty.true) from c.args.to aims
