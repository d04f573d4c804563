use Rattle.std.proofs.Common.{◌≡◌, ◌∙◌, ℕ, ◌<◌, ◌||◌, inl, inr, Bool, List, [], refl, sym, ap, arith, subst}
use Rattle.std.proofs.lemmas.Bool.{cases_eq, ne_eqb}
use Rattle.ps_model.specs.declared.limits.TheConstants.{SIDE_LIMIT}
use Rattle.ps_model.specs.board.Grid.{Grid}
use Rattle.ps_board.specs.ColumnSets.{column_at, set_columns}
use Rattle.ps_board.proofs.ColumnLaws.{none_in}
use Rattle.ps_board.proofs.Taken.{below-more, taken_below, taken_out}
use Rattle.ps_move.specs.Parts.{IsStuckRow}
use Rattle.ps_move.proofs.Movers.{all_below, below_both, moves_in_all, moves_in_both, stuck_beside}
use Rattle.ps_move.proofs.Parts.{part_none, part_then, passes_of_part, stuck_row_still}
use Rattle.ps_move.proofs.movement.slide_layer.Goals as goal

pub loop-row-init : goal.loop-row-init
loop-row-init g c =
    let old : Grid = g.B.Board.grid c.args.board.now in
    let layer : ℕ = (c.args.layer).0 in
    let both : List Bool = c.both-left.result in
    record {
      part = part_none old layer;
      below = record {
        at = below_both old.height c.args.rows c.rows_moving_on.result both c.both-left.ensures
            (all_below old.height c.args.rows c.requires.rows);
      };
      stuck = stuck_beside old layer both (moves_in_both old layer c.args.rows c.rows_moving_on.result both
          c.requires.shape c.both-left.ensures (moves_in_all old layer c.args.rows c.requires.shape c.requires.rows)
          c.rows_moving_on.ensures);
      table = refl;
      origin = refl;
    }

pub slide_row-moved-requires-clause-shape : goal.slide_row-moved-requires-clause-shape
slide_row-moved-requires-clause-shape g c = c.loop-row.invariant.part.shape c.requires.shape

pub slide_row-moved-requires-clause-layer : goal.slide_row-moved-requires-clause-layer
slide_row-moved-requires-clause-layer g c = rw c.loop-row.invariant.part.layers c.requires.layer

pub slide_row-moved-requires-clause-row : goal.slide_row-moved-requires-clause-row
slide_row-moved-requires-clause-row g c =
    let old : Grid = g.B.Board.grid c.args.board.now in
    let was = c.loop-row.invariant in
    let down : c.in-Some.row < old.height =
    taken_below c.loop-row.left c.take_first.new.self old.height c.in-Some.row c.in-Some.ensures.some was.below in
    rw was.part.height down

pub loop-row-preserved : goal.loop-row-preserved
loop-row-preserved g c =
    let old : Grid = g.B.Board.grid c.args.board.now in
    let now : Grid = g.B.Board.grid c.loop-row.board in
    let new : Grid = g.B.Board.grid c.slide_row-moved.new.board in
    let layer : ℕ = (c.args.layer).0 in
    let set : List Bool = c.loop-row.left in
    let left : List Bool = c.take_first.new.self in
    let row : ℕ = c.in-Some.row in
    let was = c.loop-row.invariant in
    let some = c.in-Some.ensures.some in
    record {
      part = part_then c.loop-row.passes c.slide_row-moved.result c.most-passes.result old now new layer
          c.most-passes.ensures.first c.most-passes.ensures.second c.most-passes.ensures.sum was.part
          c.slide_row-moved.ensures.part;
      below = below-more set left old.height row some was.below;
      stuck = λ other down out. elim (cases_eq other row) [
        | inl e ↦ subst (IsStuckRow new layer) (sym e) c.slide_row-moved.ensures.stuck
        | inr apart ↦
            let narrow : other < SIDE_LIMIT = omega (arith, down, c.requires.shape.rows) in
            stuck_row_still c.slide_row-moved.result now new layer other c.slide_row-moved.ensures.part
            (was.stuck other down (taken_out set left row other some narrow
            ∙ ap (λ (b : Bool). b || column_at left other) (ne_eqb other row apart) ∙ out))
      ];
      table = c.slide_row-moved.ensures.table ∙ was.table;
      origin = c.slide_row-moved.ensures.origin ∙ was.origin;
    }

pub returns-clause-passes : goal.returns-clause-passes
returns-clause-passes g c =
    let old : Grid = g.B.Board.grid c.args.board.now in
    let now : Grid = g.B.Board.grid c.loop-row.board in
    let was = c.loop-row.invariant in
    let empty : set_columns c.loop-row.left ≡ [] = c.in_default.ensures.none refl in
    passes_of_part c.loop-row.passes old now (c.args.layer).0 c.requires.shape was.part
    (λ row down.
    let down' : row < old.height = rw (← was.part.height) down in
    let narrow : row < SIDE_LIMIT = omega (arith, down', c.requires.shape.rows) in
    was.stuck row down' (none_in c.loop-row.left row empty narrow))
