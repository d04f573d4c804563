use Rattle.std.proofs.Common.{ℕ, refl}
use Rattle.ps_model.specs.declared.pieces.Direction.TheVariants.{Left}
use Rattle.ps_model.specs.board.Grid.{Grid}
use Rattle.ps_move.specs.Entering.{Comes, IsFirst}
use Rattle.ps_move.proofs.Entering.{if_some, first_right, first_down, first_up, first_left, wanted_by_none}
use Rattle.ps_move.proofs.movement.first_to_enter.Goals as goal

pub returns-in-Some-clause-some : goal.returns-in-Some-clause-some
returns-in-Some-clause-some g c =
    first_right (g.B.Board.grid c.args.board.now) (c.args.layer).0 c.args.to c.in-Some.from
    c.requires.shape c.in-Some.ensures.some

pub returns-in-Some-comer-clause-some : goal.returns-in-Some-comer-clause-some
returns-in-Some-comer-clause-some g c =
    first_down (g.B.Board.grid c.args.board.now) (c.args.layer).0 c.args.to c.in-Some-comer.from
    c.requires.shape (c.in_default.ensures.none refl) c.in-Some-comer.ensures.some

pub returns-in-Some-comer-2-clause-some : goal.returns-in-Some-comer-2-clause-some
returns-in-Some-comer-2-clause-some g c =
    first_up (g.B.Board.grid c.args.board.now) (c.args.layer).0 c.args.to c.in-Some-comer-2.from
    c.requires.shape
    (c.in_default.ensures.none refl) (c.in_default-comer.ensures.none refl) c.in-Some-comer-2.ensures.some

pub returns-clause-some : goal.returns-clause-some
returns-clause-some g c =
    let grid : Grid = g.B.Board.grid c.args.board.now in
    let layer : ℕ = (c.args.layer).0 in
    if_some (Comes grid layer c.args.to Left) (IsFirst grid layer c.args.to)
    (λ from. first_left grid layer c.args.to from c.requires.shape
    (c.in_default.ensures.none refl) (c.in_default-comer.ensures.none refl) (c.in_default-comer-2.ensures.none refl))
    c.comer-4.result c.comer-4.ensures.some

pub returns-clause-none : goal.returns-clause-none
returns-clause-none g c = λ none.
    wanted_by_none (g.B.Board.grid c.args.board.now) (c.args.layer).0 c.args.to c.requires.shape
    (c.in_default-comer-2.ensures.none refl) (c.in_default-comer.ensures.none refl)
    (c.comer-4.ensures.none none) (c.in_default.ensures.none refl)
