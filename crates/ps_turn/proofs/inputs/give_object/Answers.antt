use Rattle.std.proofs.Common.{◌≡◌, ◌∙◌, ℕ, ◌+◌, ◌*◌, List, [], ◌∷◌, map, refl, subst, ap}
use Rattle.ps_model.specs.declared.pieces.Slot.{Slot}
use Rattle.ps_model.specs.board.Grid.{Grid, IsGrid}
use Rattle.ps_board.specs.ColumnSets.{columns_below}
use Rattle.ps_board.proofs.Taken.{below-init, below-more, passed-all, passed-changed, passed-init, taken_below}
use Rattle.ps_turn.specs.Sweeps.{IsRowChanged, slot_set_moving}
use Rattle.ps_turn.proofs.CellsChanged.{all_rows_changed, changed_height, changed_then, none_changed, row_kept}
use Rattle.ps_turn.proofs.RowsHeld.{held-one}
use Rattle.ps_turn.proofs.inputs.give_object.Goals as goal

pub loop-row-init : goal.loop-row-init
loop-row-init g c =
    let start : Grid = g.B.Board.grid c.args.board.now in
    let change : List Slot → List Slot = map (slot_set_moving (c.args.object ∷ []) c.args.motion) in
    let shape : IsGrid start = c.size-height.ensures.shape in
    let below : c.below.result ≡ columns_below start.height =
    c.below.ensures ∙ ap columns_below c.size-height.ensures.height in
    record {
      changed = none_changed change start;
      low = below-init c.rows_holding-standing.result c.below.result c.both-left.result start.height below
          c.both-left.ensures;
      passed =
          passed-init (IsRowChanged change start start) c.rows_holding-standing.result c.below.result
          c.both-left.result start.height shape.rows below c.both-left.ensures
          (row_kept (c.args.object ∷ []) c.args.motion start c.rows_holding-standing.result
          (held-one start c.args.object c.rows_holding-standing.result c.rows_holding-standing.ensures));
      table = refl;
      origin = refl;
    }

pub give_row-requires : goal.give_row-requires
give_row-requires g c =
    let start : Grid = g.B.Board.grid c.args.board.now in
    let now : Grid = g.B.Board.grid c.loop-row.board in
    rw (changed_height (map (slot_set_moving (c.args.object ∷ []) c.args.motion)) start now
    c.loop-row.invariant.changed)
    (taken_below c.loop-row.left c.take_first.new.self start.height c.in-Some.row c.in-Some.ensures.some
    c.loop-row.invariant.low)

pub loop-row-preserved : goal.loop-row-preserved
loop-row-preserved g c =
    let start : Grid = g.B.Board.grid c.args.board.now in
    let now : Grid = g.B.Board.grid c.loop-row.board in
    let next : Grid = g.B.Board.grid c.give_row.new.board in
    let change : List Slot → List Slot = map (slot_set_moving (c.args.object ∷ []) c.args.motion) in
    let row : ℕ = c.in-Some.row in
    let inv = c.loop-row.invariant in
    let shape : IsGrid start = c.size-height.ensures.shape in
    let here : IsRowChanged change start next row =
    subst (λ (sides : Grid). IsRowChanged change sides next row) inv.changed.sides c.give_row.ensures.here in
    record {
      changed = changed_then change start now next inv.changed c.give_row.ensures.changed;
      low = below-more c.loop-row.left c.take_first.new.self start.height row c.in-Some.ensures.some inv.low;
      passed =
          passed-changed (IsRowChanged change start now) (IsRowChanged change start next) c.loop-row.left
          c.take_first.new.self start.height row shape.rows c.in-Some.ensures.some here
          (λ other low apart are x across. c.give_row.ensures.changed.kept (x * start.height + other) (are x across))
          inv.passed;
      table = c.give_row.ensures.table ∙ inv.table;
      origin = c.give_row.ensures.origin ∙ inv.origin;
    }

pub returns-clause-moved : goal.returns-clause-moved
returns-clause-moved g c =
    let start : Grid = g.B.Board.grid c.args.board.now in
    let now : Grid = g.B.Board.grid c.loop-row.board in
    let change : List Slot → List Slot = map (slot_set_moving (c.args.object ∷ []) c.args.motion) in
    let inv = c.loop-row.invariant in
    let shape : IsGrid start = c.size-height.ensures.shape in
    all_rows_changed change start now shape inv.changed
    (λ row low. passed-all (IsRowChanged change start now) c.loop-row.left start.height row shape.rows
    (c.in_default.ensures.none refl) inv.passed low)
