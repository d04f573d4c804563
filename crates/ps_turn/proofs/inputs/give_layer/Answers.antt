use Rattle.std.proofs.Common.{◌≡◌, ◌∙◌, ℕ, ◌+◌, ◌*◌, ◌<◌, Bool, true, List, [], ◌∷◌, length, map, refl, sym, subst, ap}
use Rattle.std.proofs.Common.{arith}
use Rattle.ps_model.specs.declared.limits.TheConstants.{SIDE_LIMIT}
use Rattle.ps_model.specs.declared.pieces.Slot.{Slot}
use Rattle.ps_model.specs.board.Grid.{Grid, IsGrid, cell_at, object_in, slot_at, slot_of, with_slot}
use Rattle.ps_model.specs.meaning.Compiled.{slot_holds}
use Rattle.ps_board.specs.ColumnSets.{column_at, set_columns}
use Rattle.ps_board.proofs.ColumnLaws.{column_at-where, first_in}
use Rattle.ps_board.proofs.PassedColumns.{cell_below}
use Rattle.ps_board.proofs.Taken.{AreBelow, below-more, passed-all, passed-changed, taken_below, was_in}
use Rattle.ps_turn.specs.Sweeps.{IsSlotChanged, StayChanged, AreChanged, slot_set_moving}
use Rattle.ps_turn.proofs.CellsChanged.{changed_height, changed_then, changed_width, none_changed, slot_again}
use Rattle.ps_turn.proofs.OneObject.{holders_below, one_given, one_kept, one_stands, still_stands}
use Rattle.ps_turn.proofs.SlotsChanged.{cells_long, slot_changed, slot_changes, slots_long, slots_stay}
use Rattle.ps_turn.proofs.inputs.give_layer.Goals as goal

pub loop-column-init : goal.loop-column-init
loop-column-init g c =
    let grid : Grid = g.B.Board.grid c.args.board.now in
    let change : Slot → Slot = slot_set_moving (c.args.object ∷ []) c.args.motion in
    let layer : ℕ = (c.args.layer).0 in
    let shape : IsGrid grid = c.size-height.ensures.shape in
    let stands : ℕ → Bool = λ x. slot_holds c.args.object (slot_at grid (x * grid.height + c.args.row) layer) in
    let told : (x : ℕ) → x < SIDE_LIMIT → column_at c.args.columns x ≡ stands x =
    λ (x : ℕ) (low : x < SIDE_LIMIT). ap (λ (columns : List Bool). column_at columns x) c.requires.columns
    ∙ column_at-where stands x low in
    record {
      changed = none_changed (map change) grid;
      stays = λ cell above is. is;
      low = subst (AreBelow grid.width) (sym c.requires.columns)
          (holders_below grid c.args.object layer c.args.row shape);
      here = λ x low on. sym (told x low) ∙ on;
      passed = record {
        at = λ x across out. one_kept c.args.object c.args.motion
            (slot_at grid (x * grid.height + c.args.row) layer)
            (sym (told x (omega (arith, across, shape.columns))) ∙ out);
      };
      table = refl;
      origin = refl;
    }

pub set_motion-requires-clause-place : goal.set_motion-requires-clause-place
set_motion-requires-clause-place g c =
    let grid : Grid = g.B.Board.grid c.args.board.now in
    let now : Grid = g.B.Board.grid c.loop-column.board in
    let change : Slot → Slot = slot_set_moving (c.args.object ∷ []) c.args.motion in
    let inv = c.loop-column.invariant in
    let column : ℕ = c.in-Some.column in
    let deep : now.layers ≡ grid.layers = ap (λ (h : Grid). h.layers) inv.changed.sides in
    let across : column < grid.width = taken_below c.loop-column.left c.take_first.new.self grid.width column
    c.in-Some.ensures.some inv.low in
    let below : column * grid.height + c.args.row < grid.width * grid.height =
    cell_below grid.width grid.height column c.args.row across c.requires.row in (
      rw (
        changed_width (map change) grid now inv.changed,
        changed_height (map change) grid now inv.changed,
        c.size-height.ensures.height,
      ) below,
      rw deep c.requires.layer,
    )

pub set_motion-requires-clause-some : goal.set_motion-requires-clause-some
set_motion-requires-clause-some g c =
    let grid : Grid = g.B.Board.grid c.args.board.now in
    let now : Grid = g.B.Board.grid c.loop-column.board in
    let layer : ℕ = (c.args.layer).0 in
    let column : ℕ = c.in-Some.column in
    let inv = c.loop-column.invariant in
    let some = c.in-Some.ensures.some in
    let first = first_in c.loop-column.left column (set_columns c.take_first.new.self) some in
    let across : column < grid.width =
    taken_below c.loop-column.left c.take_first.new.self grid.width column some inv.low in
    rw c.size-height.ensures.height
    (one_stands c.args.object (slot_at now (column * grid.height + c.args.row) layer)
    (still_stands c.args.object (c.args.object ∷ []) c.args.motion grid now layer c.args.row column
    c.size-height.ensures.shape c.requires.row c.requires.layer across inv.changed (inv.here column first.1 first.0)))

pub loop-column-preserved : goal.loop-column-preserved
loop-column-preserved g c =
    let grid : Grid = g.B.Board.grid c.args.board.now in
    let now : Grid = g.B.Board.grid c.loop-column.board in
    let next : Grid = g.B.Board.grid c.set_motion.new.self in
    let change : Slot → Slot = slot_set_moving (c.args.object ∷ []) c.args.motion in
    let again = slot_again (c.args.object ∷ []) c.args.motion in
    let inv = c.loop-column.invariant in
    let shape : IsGrid grid = c.size-height.ensures.shape in
    let layer : ℕ = (c.args.layer).0 in
    let column : ℕ = c.in-Some.column in
    let cell : ℕ = column * grid.height + c.args.row in
    let some = c.in-Some.ensures.some in
    let first = first_in c.loop-column.left column (set_columns c.take_first.new.self) some in
    let across : column < grid.width =
    taken_below c.loop-column.left c.take_first.new.self grid.width column some inv.low in
    let start_within : cell < length grid.cells =
    rw shape.cells (cell_below grid.width grid.height column c.args.row across c.requires.row) in
    let within : cell < length now.cells = rw (cells_long change grid now inv.changed) start_within in
    let long : length (cell_at now cell) ≡ grid.layers =
    slots_long change grid now inv.changed cell start_within ∙ shape.slots cell _ start_within in
    let low : layer < length (cell_at now cell) = rw long c.requires.layer in
    let there : slot_holds c.args.object (slot_at now cell layer) ≡ true =
    still_stands c.args.object (c.args.object ∷ []) c.args.motion grid now layer c.args.row column shape c.requires.row
    c.requires.layer across inv.changed (inv.here column first.1 first.0) in
    let made : next ≡ with_slot now cell layer (change (slot_at now cell layer)) =
    c.set_motion.ensures.grid
    ∙ ap (λ (h : ℕ). let at : ℕ = column * h + c.args.row in
    with_slot now at layer (slot_of (object_in (slot_at now at layer)) c.args.motion)) c.size-height.ensures.height
    ∙ ap (with_slot now cell layer) (one_given c.args.object c.args.motion (slot_at now cell layer) there) in
    let stay : StayChanged change now next =
    subst (StayChanged change now) (sym made) (slots_stay change again refl now cell layer within low) in
    let At : Grid → ℕ → Type 0 = λ h x. IsSlotChanged change h (x * grid.height + c.args.row) layer in
    record {
      changed = changed_then (map change) grid now next inv.changed
          (subst (AreChanged (map change) now) (sym made) (slot_changes change again refl now cell layer within low));
      stays = λ other above is. stay other above (inv.stays other above is);
      low = below-more c.loop-column.left c.take_first.new.self grid.width column some inv.low;
      here = λ x narrow on.
          inv.here x narrow (was_in c.loop-column.left c.take_first.new.self column x some narrow on);
      passed =
          passed-changed (At now) (At next) c.loop-column.left c.take_first.new.self grid.width column shape.columns
          some (subst (λ (h : Grid). At h column) (sym made) (slot_changed change again refl now cell layer within low))
          (λ x under apart is. stay (x * grid.height + c.args.row) layer is) inv.passed;
      table = c.set_motion.ensures.table ∙ inv.table;
      origin = c.set_motion.ensures.origin ∙ inv.origin;
    }

pub returns-clause-here : goal.returns-clause-here
returns-clause-here g c = λ x across.
    let grid : Grid = g.B.Board.grid c.args.board.now in
    let now : Grid = g.B.Board.grid c.loop-column.board in
    passed-all (λ y. IsSlotChanged (slot_set_moving (c.args.object ∷ []) c.args.motion) now
    (y * grid.height + c.args.row) (c.args.layer).0) c.loop-column.left grid.width x
    c.size-height.ensures.shape.columns (c.in_default.ensures.none refl) c.loop-column.invariant.passed across
