use Rattle.std.proofs.Common.{◌≡◌, ◌∙◌, ◌<◌, ◌≤◌, ◌&&◌, ◌||◌, ℕ, List, Bool, Some, false, [], refl, ap₂, subst, arith}
use Rattle.std.specs.Prelude.{nat_eq, nat_lt}
use Rattle.std.proofs.lemmas.Bool.{or_parts}
use Rattle.ps_model.specs.declared.limits.TheConstants.{SIDE_LIMIT}
use Rattle.ps_model.specs.declared.pieces.Slot.{Slot}
use Rattle.ps_model.specs.board.Grid.{Grid}
use Rattle.ps_model.specs.meaning.Compiled.{CellWrite}
use Rattle.ps_program.specs.ProgramShown.{write_shown}
use Rattle.ps_match.specs.InRoom.{slot_after, write_in_room}
use Rattle.ps_board.specs.ColumnSets.{column_at, set_columns}
use Rattle.ps_board.specs.declared.one_word.TheConstants.{WORD_BITS}
use Rattle.ps_board.proofs.Taken.{below-more, taken_below}
use Rattle.ps_match.specs.Touches.{touches}
use Rattle.ps_rows.specs.LayersTouched.{is_reached}
use Rattle.ps_rows.specs.Showing.{grid_shown}
use Rattle.ps_rows.specs.SlotsWritten.{AreSlotsLeft, AreSlotsWritten, in_columns}
use Rattle.ps_rows.proofs.LayersTouched.{all_done, done_first, first_below, first_near, is_done, more_done, not_done}
use Rattle.ps_rows.proofs.RowsWritten.{left_as, left_here, left_next, left_untouched, slots_as, slots_next}
use Rattle.ps_rows.proofs.RowsWritten.{slots_untouched}
use Rattle.ps_rows.proofs.row_board.RowBoard.write_touched.Goals as goal

pub loop-layer-init : goal.loop-layer-init
loop-layer-init g c =
    let b = c.args.self.now in
    let table : List ℕ = b.members.table.items in
    let write : CellWrite = write_shown c.args.write.now in
    let start : Grid = grid_shown table b.width b.planes.height b.layers b.planes.words.items in
    let chosen : ℕ → Bool = in_columns b.planes.height c.args.row c.args.columns in
    let touched : List Bool = c.touched_layers-left.result in
    let few : b.layers ≤ SIDE_LIMIT = omega (arith, b.few_layers) in
    let T : ℕ → Type 0 = λ n. (x : ℕ) → x < SIDE_LIMIT →
    column_at touched x ≡ (is_reached n x && touches write x) in
    let so : T b.layers = subst T c.layers.ensures c.touched_layers-left.ensures in
    let none = done_first touched b.layers write so few in
    record {
      slots = slots_untouched (Some table) write start chosen (is_done touched) none;
      quiet = λ e. left_untouched (Some table) write start chosen (is_done touched) none;
      left = λ all. refl;
      width = refl;
      height = refl;
      layers = refl;
      table = refl;
      origin = refl;
      below = first_below touched b.layers write so;
      near = first_near touched b.layers write so;
    }

pub write_layer-any-requires-clause-layer : goal.write_layer-any-requires-clause-layer
write_layer-any-requires-clause-layer g c =
    rw c.loop-layer.invariant.layers (taken_below c.loop-layer.left c.take_first.new.self c.args.self.now.layers
    c.in-Some.layer c.in-Some.ensures.some c.loop-layer.invariant.below)

pub loop-layer-preserved : goal.loop-layer-preserved
loop-layer-preserved g c =
    let b = c.args.self.now in
    let was = c.loop-layer.invariant in
    let before = c.loop-layer.self in
    let behind = c.write_layer-any.new.self in
    let write : CellWrite = write_shown c.args.write.now in
    let start : Grid = grid_shown b.members.table.items b.width b.planes.height b.layers b.planes.words.items in
    let now : Grid = grid_shown before.members.table.items before.width before.planes.height before.layers
    before.planes.words.items in
    let next : Grid = grid_shown behind.members.table.items behind.width behind.planes.height behind.layers
    behind.planes.words.items in
    let layer : ℕ = c.in-Some.layer in
    let set : List Bool = c.loop-layer.left in
    let more : List Bool = c.take_first.new.self in
    let is = c.in-Some.ensures.some in
    let off = not_done set more layer is was.near in
    let same : (l : ℕ) → l < b.layers → is_done more l ≡ (nat_eq l layer || is_done set l) =
    λ l low. more_done set more layer is was.near l (omega (arith, low, b.few_layers)) in
    let chosen : ℕ → Bool = in_columns b.planes.height c.args.row c.args.columns in
    let after : ℕ → Slot → Slot = slot_after (write_in_room (Some b.members.table.items) write) in
    let S : List ℕ → ℕ → Type 0 =
    λ t h. AreSlotsWritten now next (in_columns h c.args.row c.args.columns) (λ l.
    nat_eq l layer) (slot_after (write_in_room (Some t) write)) in
    let Q : List ℕ → ℕ → Type 0 =
    λ t h. c.write_layer-any.result ≡ false → AreSlotsLeft now (in_columns h c.args.row c.args.columns) (λ l.
    nat_eq l layer) (slot_after (write_in_room (Some t) write)) in
    let L : List ℕ → ℕ → Type 0 =
    λ t h. AreSlotsLeft now (in_columns h c.args.row c.args.columns) (λ l.
    nat_eq l layer) (slot_after (write_in_room (Some t) write)) → c.write_layer-any.result ≡ false in
    let slots : S b.members.table.items b.planes.height =
    subst (λ (t : List ℕ). S t b.planes.height) was.table
    (subst (λ (h : ℕ). S before.members.table.items h) was.height c.write_layer-any.ensures.slots) in
    let quiet : Q b.members.table.items b.planes.height =
    subst (λ (t : List ℕ). Q t b.planes.height) was.table
    (subst (λ (h : ℕ). Q before.members.table.items h) was.height c.write_layer-any.ensures.quiet) in
    let left : L b.members.table.items b.planes.height =
    subst (λ (t : List ℕ). L t b.planes.height) was.table
    (subst (λ (h : ℕ). L before.members.table.items h) was.height c.write_layer-any.ensures.left) in
    record {
      slots =
          slots_next start chosen after now (is_done set) was.slots layer off next (is_done more) same was.width
          was.height was.layers slots;
      quiet = λ none.
          let parts = or_parts c.loop-layer.any c.write_layer-any.result none in
          left_next start chosen after now (is_done set) was.slots layer off (is_done more) same was.width was.height
          was.layers (was.quiet parts.0) (quiet parts.1);
      left = λ all.
          ap₂ (λ (x y : Bool). x || y) (was.left all)
          (left (left_here start chosen after now (is_done set) was.slots layer off was.width was.height was.layers
          all));
      width = c.write_layer-any.ensures.width ∙ was.width;
      height = c.write_layer-any.ensures.height ∙ was.height;
      layers = c.write_layer-any.ensures.layers ∙ was.layers;
      table = c.write_layer-any.ensures.table ∙ was.table;
      origin = c.write_layer-any.ensures.origin ∙ was.origin;
      below = below-more set more b.layers layer is was.below;
      near = below-more set more WORD_BITS layer is was.near;
    }

pub returns-clause-slots : goal.returns-clause-slots
returns-clause-slots g c =
    let b = c.args.self.now in
    let last = c.loop-layer.self in
    let start : Grid = grid_shown b.members.table.items b.width b.planes.height b.layers b.planes.words.items in
    let now : Grid = grid_shown last.members.table.items last.width last.planes.height last.layers
    last.planes.words.items in
    let none : set_columns c.loop-layer.left ≡ [] = c.in_default.ensures.none refl in
    slots_as start (in_columns b.planes.height c.args.row c.args.columns)
    (slot_after (write_in_room (Some b.members.table.items) (write_shown c.args.write.now))) now
    (is_done c.loop-layer.left) (λ l. nat_lt l WORD_BITS)
    (λ l low. all_done c.loop-layer.left l none (omega (arith, low, b.few_layers))) c.loop-layer.invariant.slots

pub returns-clause-quiet : goal.returns-clause-quiet
returns-clause-quiet g c = λ e.
    let b = c.args.self.now in
    let start : Grid = grid_shown b.members.table.items b.width b.planes.height b.layers b.planes.words.items in
    let none : set_columns c.loop-layer.left ≡ [] = c.in_default.ensures.none refl in
    left_as start (in_columns b.planes.height c.args.row c.args.columns)
    (slot_after (write_in_room (Some b.members.table.items) (write_shown c.args.write.now)))
    (is_done c.loop-layer.left) (λ l. nat_lt l WORD_BITS)
    (λ l low. all_done c.loop-layer.left l none (omega (arith, low, b.few_layers))) (c.loop-layer.invariant.quiet e)
