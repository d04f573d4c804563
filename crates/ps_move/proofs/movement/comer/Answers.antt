use Rattle.std.proofs.Common.{◌≡◌, ◌∙◌, ℕ, true, false, Some, None, sym, ap}
use Rattle.std.proofs.lemmas.Option.{same_Some}
use Rattle.ps_model.specs.declared.pieces.Direction.{Direction}
use Rattle.ps_model.specs.declared.pieces.Motion.TheVariants.{Going}
use Rattle.ps_model.specs.board.Grid.{Grid, motion_in, neighbour, slot_at}
use Rattle.ps_model.specs.meaning.Directions.{opposite}
use Rattle.ps_model.specs.meaning.Fitting.{same_motion}
use Rattle.ps_laws.proofs.common.SameThings.{same_motion-true}
use Rattle.ps_move.proofs.Entering.{goes_there, going_is_own, neighbour_back, neighbour_on}
use Rattle.ps_move.proofs.movement.comer.Goals as goal

pub returns-then-not-may_go-clause-none : goal.returns-then-not-may_go-clause-none
returns-then-not-may_go-clause-none g c = λ _ from comes.
    let grid : Grid = g.B.Board.grid c.args.board.now in
    let goes : same_motion (Going c.args.direction) (motion_in (slot_at grid from (c.args.layer).0)) ≡ true =
    going_is_own comes.1.0 c.args.direction (slot_at grid from (c.args.layer).0) comes.1.1 in
    let clash : true ≡ false = sym goes ∙ c.may_go.ensures c.if-not-may_go.true from comes.0 in
    absurd (cc)

pub returns-in_default-clause-none : goal.returns-in_default-clause-none
returns-in_default-clause-none g c = λ _ from comes.
    let grid : Grid = g.B.Board.grid c.args.board.now in
    let back = neighbour_back grid c.args.direction from c.args.to c.requires.shape comes.0 comes.1.2 in
    let clash : None ≡ Some from = c.in_default.ensures.value
    ∙ ap (λ (d : Direction). neighbour grid d c.args.to) c.opposite.ensures ∙ back in
    absurd (cc)

pub returns-then-goes-clause-some : goal.returns-then-goes-clause-some
returns-then-goes-clause-some g c =
    let grid : Grid = g.B.Board.grid c.args.board.now in
    let direction : Direction = c.args.direction in
    let from : ℕ = c.in-Some.from in
    let going = same_motion-true (Going direction) (motion_in (slot_at grid from (c.args.layer).0))
    (sym c.goes.ensures ∙ c.if-goes.true) in
    let found = goes_there (slot_at grid from (c.args.layer).0) direction going in
    let near : neighbour grid (opposite direction) c.args.to ≡ Some from =
    sym (c.in-Some.ensures.value ∙ ap (λ (d : Direction). neighbour grid d c.args.to) c.opposite.ensures) in
    let back : neighbour grid direction from ≡ Some c.args.to =
    neighbour_on grid direction c.args.to from c.requires.shape c.requires.place.0 near in (
      c.in-Some.ensures.within,
      (found.0, found.1, back),
    )

pub returns-clause-none : goal.returns-clause-none
returns-clause-none g c = λ _ other comes.
    let grid : Grid = g.B.Board.grid c.args.board.now in
    let direction : Direction = c.args.direction in
    let from : ℕ = c.in-Some.from in
    let back = neighbour_back grid direction other c.args.to c.requires.shape comes.0 comes.1.2 in
    let same : from ≡ other = same_Some from other (c.in-Some.ensures.value
    ∙ ap (λ (d : Direction). neighbour grid d c.args.to) c.opposite.ensures ∙ back) in
    let stands = ap (λ (cell : ℕ). slot_at grid cell (c.args.layer).0) same ∙ comes.1.1 in
    let goes : same_motion (Going direction) (motion_in (slot_at grid from (c.args.layer).0)) ≡ true =
    going_is_own comes.1.0 direction (slot_at grid from (c.args.layer).0) stands in
    let clash : true ≡ false = sym goes ∙ sym c.goes.ensures ∙ c.if-goes.false in
    absurd (cc)
