use Rattle.std.proofs.Common.{◌≡◌, ◌∙◌, ℕ, ◌+◌, ◌*◌, ◌<◌, ◌≤◌, Some, ap, arith, subst, sym, refl}
use Rattle.ps_model.specs.declared.limits.TheConstants.{SIDE_LIMIT, LAYER_LIMIT}
use Rattle.ps_model.specs.declared.pieces.Slot.TheVariants.{Bare}
use Rattle.ps_model.specs.board.Grid.{Grid, slot_at}
use Rattle.ps_move.specs.Visits.{going_count}
use Rattle.ps_move.specs.Parts.{IsChain}
use Rattle.ps_move.proofs.Steps.{left_bare, step_fewer, stepped}
use Rattle.ps_move.proofs.Parts.{chain_end, chain_more, chain_none, goes_from, going_count-bound, shifted}
use Rattle.ps_move.proofs.movement.follow.Goals as goal

pub loop-from-init : goal.loop-from-init
loop-from-init g c = record {
  chain = chain_none (g.B.Board.grid c.args.board.now) (c.args.layer).0 c.args.left;
  place = c.requires.place.0;
  bare = c.requires.bare;
  table = refl;
  origin = refl;
}

pub overflow_add-passes : goal.overflow_add-passes
overflow_add-passes g c =
    let few = c.loop-from.invariant.chain.fewer in
    let all : going_count (g.B.Board.grid c.args.board.now) ≤ SIDE_LIMIT * SIDE_LIMIT * LAYER_LIMIT =
    going_count-bound (g.B.Board.grid c.args.board.now) c.requires.shape in
    let one = c.passes_more-passes.ensures in
    omega (arith, few, all, one)

pub loop-from-smaller : goal.loop-from-smaller
loop-from-smaller g c =
    let now : Grid = g.B.Board.grid c.loop-from.board in
    let layer : ℕ = (c.args.layer).0 in
    let hole : ℕ = c.loop-from.hole in
    let from : ℕ = c.in-Some.from in
    let was = c.loop-from.invariant in
    let next = c.in-Some.ensures.some in
    let low : layer < now.layers = rw was.chain.layers c.requires.place.1 in
    let goes = goes_from now layer from hole (was.chain.shape c.requires.shape) low next.place next.aims was.bare in
    let grid = c.shift.ensures.grid ∙ shifted now layer from hole goes.0 goes.1 goes.2.stands in
    let same : going_count (g.B.Board.grid c.shift.new.self) ≡ going_count (stepped now layer from goes.0 hole) =
    ap going_count grid in
    let less = step_fewer now layer from goes.0 goes.1 hole goes.2 in
    omega (arith, same, less)

pub loop-from-preserved : goal.loop-from-preserved
loop-from-preserved g c =
    let old : Grid = g.B.Board.grid c.args.board.now in
    let now : Grid = g.B.Board.grid c.loop-from.board in
    let layer : ℕ = (c.args.layer).0 in
    let hole : ℕ = c.loop-from.hole in
    let from : ℕ = c.in-Some.from in
    let was = c.loop-from.invariant in
    let next = c.in-Some.ensures.some in
    let low : layer < now.layers = rw was.chain.layers c.requires.place.1 in
    let goes = goes_from now layer from hole (was.chain.shape c.requires.shape) low next.place next.aims was.bare in
    let grid : g.B.Board.grid c.shift.new.self ≡ stepped now layer from goes.0 hole =
    c.shift.ensures.grid ∙ shifted now layer from hole goes.0 goes.1 goes.2.stands in
    let more : ℕ = c.loop-from.passes + c.passes_more-passes.result in
    let one = c.passes_more-passes.ensures in
    record {
      chain = subst (λ (x : Grid). IsChain more old x layer c.args.left (Some from)) (sym grid)
          (chain_more c.loop-from.passes more old now layer c.args.left hole from goes.0 goes.1 (omega (arith, one))
          was.chain goes.2 next);
      place = subst (λ (x : Grid). from < x.width * x.height) (sym grid) next.place;
      bare = subst (λ (x : Grid). slot_at x from layer ≡ Bare) (sym grid)
          (left_bare now layer from goes.0 goes.1 hole goes.2);
      table = c.shift.ensures.table ∙ was.table;
      origin = c.shift.ensures.origin ∙ was.origin;
    }

pub returns-clause-chain : goal.returns-clause-chain
returns-clause-chain g c =
    chain_end c.loop-from.passes (g.B.Board.grid c.args.board.now) (g.B.Board.grid c.loop-from.board) (c.args.layer).0
    c.args.left c.loop-from.hole c.loop-from.invariant.chain (c.in_default.ensures.none refl)
