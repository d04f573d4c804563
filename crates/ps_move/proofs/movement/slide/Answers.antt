use Rattle.std.proofs.Common.{◌≡◌, ◌∙◌, ℕ, ◌+◌, ◌*◌, ◌≤◌, None, subst, arith, refl, ap, sym}
use Rattle.ps_model.specs.declared.limits.TheConstants.{SIDE_LIMIT, LAYER_LIMIT}
use Rattle.ps_model.specs.board.Grid.{Grid, at_rest}
use Rattle.ps_model.specs.board.WeakMovement.{IsWeaklySlid}
use Rattle.ps_board.specs.ColumnSets.{columns_below}
use Rattle.ps_move.specs.Visits.{going_count}
use Rattle.ps_move.specs.Order.{IsInOrder}
use Rattle.ps_move.proofs.Parts.{going_count-bound, order_none, rest_slides}
use Rattle.ps_move.proofs.Passes.{passes_none, passes_then}
use Rattle.ps_move.proofs.Ends.{rest_exact}
use Rattle.ps_move.proofs.movement.slide.Goals as goal

pub loop-layer-init : goal.loop-layer-init
loop-layer-init g c = (
  0,
  record {
    some = omega arith;
    few = omega arith;
    none = λ _. refl;
    passes = passes_none (g.B.Board.grid c.args.board.now) 0;
    table = refl;
    origin = refl;
  },
)

pub slide_layer-moved-requires-clause-shape : goal.slide_layer-moved-requires-clause-shape
slide_layer-moved-requires-clause-shape g c =
    c.loop-layer.invariant.1.passes.shape c.size-height.ensures.shape

pub slide_layer-moved-requires-clause-layer : goal.slide_layer-moved-requires-clause-layer
slide_layer-moved-requires-clause-layer g c =
    rw (c.loop-layer.invariant.1.passes.layers, ← c.layers-layer-end.ensures) c.loop-layer-test.true

pub slide_layer-moved-requires-clause-rows : goal.slide_layer-moved-requires-clause-rows
slide_layer-moved-requires-clause-rows g c =
    c.below-rows.ensures
    ∙ ap columns_below (c.size-height.ensures.height ∙ sym c.loop-layer.invariant.1.passes.height)

pub most_passes-passes-requires-clause-some : goal.most_passes-passes-requires-clause-some
most_passes-passes-requires-clause-some g c = c.loop-layer.invariant.1.some

pub most_passes-passes-requires-clause-few : goal.most_passes-passes-requires-clause-few
most_passes-passes-requires-clause-few g c =
    let were = c.loop-layer.invariant.1.passes.fewer in
    let few = c.slide_layer-moved.ensures.passes.fewer in
    let all : going_count (g.B.Board.grid c.args.board.now) ≤ SIDE_LIMIT * SIDE_LIMIT * LAYER_LIMIT =
    going_count-bound (g.B.Board.grid c.args.board.now) c.size-height.ensures.shape in
    omega (arith, were, few, all)

pub loop-layer-preserved : goal.loop-layer-preserved
loop-layer-preserved g c =
    let moved : ℕ = c.loop-layer.invariant.0 in
    let was = c.loop-layer.invariant.1 in (
      moved + c.slide_layer-moved.result,
      record {
        some = omega (arith, was.some, c.most_passes-passes.ensures.before);
        few = omega (arith, was.few, c.most_passes-passes.ensures.few);
        none = λ one.
            let before : c.loop-layer.passes ≡ 1 = omega (arith, one, was.some, c.most_passes-passes.ensures.before) in
            let none : moved ≡ 0 = was.none before in
            let here : c.slide_layer-moved.result ≡ 0 = omega (arith, one, c.most_passes-passes.ensures.here) in
            omega (arith, none, here);
        passes = passes_then moved c.slide_layer-moved.result (g.B.Board.grid c.args.board.now)
            (g.B.Board.grid c.loop-layer.board) (g.B.Board.grid c.slide_layer-moved.new.board) 0 c.loop-layer.layer
            (c.loop-layer.layer + 1) was.passes c.slide_layer-moved.ensures.passes;
        table = c.slide_layer-moved.ensures.table ∙ was.table;
        origin = c.slide_layer-moved.ensures.origin ∙ was.origin;
      },
    )

pub returns-clause-exact : goal.returns-clause-exact
returns-clause-exact g c =
    let start : Grid = g.B.Board.grid c.args.board.now in
    let now : Grid = g.B.Board.grid c.loop-layer.board in
    let was = c.loop-layer.invariant.1.passes in
    let low = c.loop-layer-test.false in
    let high = c.loop-layer.auto.layer-end in
    let all : c.layers-layer-end.result ≡ start.layers = c.layers-layer-end.ensures in
    let end : c.loop-layer.layer ≡ now.layers = omega (arith, was.layers) in
    let order : IsInOrder start now now.layers None =
    subst (λ (layer : ℕ). IsInOrder start now layer None) end (was.order start (order_none start)) in
    c.clear_moves.ensures.grid ∙ rest_exact start now (was.shape c.size-height.ensures.shape) order

pub returns-clause-slid : goal.returns-clause-slid
returns-clause-slid g c =
    let start : Grid = g.B.Board.grid c.args.board.now in
    let now : Grid = g.B.Board.grid c.loop-layer.board in
    let order = c.loop-layer.invariant.1.passes.order start (order_none start) in
    let slid : IsWeaklySlid start (at_rest now) = rest_slides start now order.midway in
    grind (arith, slid)

pub returns-clause-some_pass : goal.returns-clause-some_pass
returns-clause-some_pass g c = c.loop-layer.invariant.1.some

pub returns-clause-one_pass : goal.returns-clause-one_pass
returns-clause-one_pass g c = λ e.
    let was = c.loop-layer.invariant.1 in
    let none : c.loop-layer.invariant.0 ≡ 0 = was.none e in
    let unchanged : g.B.Board.grid c.loop-layer.board ≡ g.B.Board.grid c.args.board.now = was.passes.same none in
    cc

pub returns-clause-few_passes : goal.returns-clause-few_passes
returns-clause-few_passes g c = omega (arith, c.loop-layer.invariant.1.few, c.loop-layer.invariant.1.passes.fewer)
