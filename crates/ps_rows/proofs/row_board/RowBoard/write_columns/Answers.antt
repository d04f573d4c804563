use Rattle.std.proofs.Common.{◌≡◌, ◌∙◌, ◌+◌, ◌*◌, ◌<◌, ◌≤◌, ◌||◌, ℕ, List, Bool, Some, true, false, length, [], sym}
use Rattle.std.proofs.Common.{ap₂, subst, arith, refl}
use Rattle.std.specs.Prelude.{nat_eq, nat_lt}
use Rattle.std.proofs.lemmas.Bool.{le-ltb, lt-ltb, or_parts}
use Rattle.ps_model.specs.declared.pieces.Slot.{Slot}
use Rattle.ps_model.specs.board.Grid.{Grid}
use Rattle.ps_model.specs.meaning.Compiled.{CellWrite}
use Rattle.ps_program.specs.ProgramShown.{write_shown}
use Rattle.ps_match.specs.InRoom.{slot_after, write_in_room}
use Rattle.ps_rows.specs.Showing.{grid_shown}
use Rattle.ps_rows.specs.SlotsWritten.{AreSlotsLeft, AreSlotsWritten, in_columns}
use Rattle.ps_rows.proofs.PutAlready.{slots_stay}
use Rattle.ps_rows.proofs.Rests.{cells_long, slots_long}
use Rattle.ps_rows.proofs.RowsWritten.{left_as, left_here, left_next, next_below, row_rewritten, slots_as, slots_next}
use Rattle.ps_rows.proofs.row_board.RowBoard.write_columns.Goals as goal

pub loop-layer-init : goal.loop-layer-init
loop-layer-init g c =
    let done = c.write_touched-any.ensures in
    record {
      slots = done.slots;
      quiet = done.quiet;
      left = done.left;
      width = done.width;
      height = done.height;
      layers = done.layers;
      table = done.table;
      origin = done.origin;
    }

pub loop-layer-preserved : goal.loop-layer-preserved
loop-layer-preserved g c =
    let b = c.args.self.now in
    let was = c.loop-layer.invariant in
    let before = c.loop-layer.self in
    let behind = c.write_if-any.new.self in
    let write : CellWrite = write_shown c.args.write.now in
    let start : Grid = grid_shown b.members.table.items b.width b.planes.height b.layers b.planes.words.items in
    let now : Grid = grid_shown before.members.table.items before.width before.planes.height before.layers
    before.planes.words.items in
    let next : Grid = grid_shown behind.members.table.items behind.width behind.planes.height behind.layers
    behind.planes.words.items in
    let layer : ℕ = c.loop-layer.layer in
    let chosen : ℕ → Bool = in_columns b.planes.height c.args.row c.args.columns in
    let after : ℕ → Slot → Slot = slot_after (write_in_room (Some b.members.table.items) write) in
    let S : List ℕ → ℕ → Type 0 =
    λ t h. AreSlotsWritten now next (in_columns h c.args.row c.args.columns) (λ l.
    nat_eq l layer) (slot_after (write_in_room (Some t) write)) in
    let Q : List ℕ → ℕ → Type 0 =
    λ t h. c.write_if-any.result ≡ false → AreSlotsLeft now (in_columns h c.args.row c.args.columns) (λ l.
    nat_eq l layer) (slot_after (write_in_room (Some t) write)) in
    let L : List ℕ → ℕ → Type 0 =
    λ t h. AreSlotsLeft now (in_columns h c.args.row c.args.columns) (λ l.
    nat_eq l layer) (slot_after (write_in_room (Some t) write)) → c.write_if-any.result ≡ false in
    let slots : S b.members.table.items b.planes.height =
    subst (λ (t : List ℕ). S t b.planes.height) was.table
    (subst (λ (h : ℕ). S before.members.table.items h) was.height c.write_if-any.ensures.slots) in
    let quiet : Q b.members.table.items b.planes.height =
    subst (λ (t : List ℕ). Q t b.planes.height) was.table
    (subst (λ (h : ℕ). Q before.members.table.items h) was.height c.write_if-any.ensures.quiet) in
    let left : L b.members.table.items b.planes.height =
    subst (λ (t : List ℕ). L t b.planes.height) was.table
    (subst (λ (h : ℕ). L before.members.table.items h) was.height c.write_if-any.ensures.left) in
    let on : ℕ → Bool = λ k. nat_lt k layer in
    let more : ℕ → Bool = λ k. nat_lt k (layer + 1) in
    let off : on layer ≡ false = le-ltb layer layer (omega arith) in
    let same : (l : ℕ) → l < b.layers → more l ≡ (nat_eq l layer || on l) = λ l low. next_below layer l in
    record {
      slots =
          slots_next start chosen after now on was.slots layer off next more same was.width was.height was.layers
          slots;
      quiet = λ none.
          let parts = or_parts c.loop-layer.any c.write_if-any.result none in
          left_next start chosen after now on was.slots layer off more same was.width was.height was.layers
          (was.quiet parts.0) (quiet parts.1);
      left = λ all.
          ap₂ (λ (x y : Bool). x || y) (was.left all)
          (left (left_here start chosen after now on was.slots layer off was.width was.height was.layers all));
      width = c.write_if-any.ensures.width ∙ was.width;
      height = c.write_if-any.ensures.height ∙ was.height;
      layers = c.write_if-any.ensures.layers ∙ was.layers;
      table = c.write_if-any.ensures.table ∙ was.table;
      origin = c.write_if-any.ensures.origin ∙ was.origin;
    }

pub returns-clause-rewritten : goal.returns-clause-rewritten
returns-clause-rewritten g c =
    let b = c.args.self.now in
    let was = c.loop-layer.invariant in
    let last = c.loop-layer.self in
    let table : List ℕ = b.members.table.items in
    let write : CellWrite = write_shown c.args.write.now in
    let start : Grid = grid_shown table b.width b.planes.height b.layers b.planes.words.items in
    let now : Grid = grid_shown last.members.table.items last.width last.planes.height last.layers
    last.planes.words.items in
    let chosen : ℕ → Bool = in_columns b.planes.height c.args.row c.args.columns in
    let after : ℕ → Slot → Slot = slot_after (write_in_room (Some table) write) in
    let end : b.layers ≤ c.loop-layer.layer = omega (arith, c.layers-layer-end.ensures, c.loop-layer-test.false) in
    let long : length start.cells ≡ b.width * b.planes.height =
    cells_long table b.layers b.planes.height b.planes.words.items (b.width * b.planes.height) in
    let now_long : length now.cells ≡ last.width * last.planes.height =
    cells_long last.members.table.items last.layers last.planes.height last.planes.words.items
    (last.width * last.planes.height) in
    let same_long : length now.cells ≡ b.width * b.planes.height = now_long
    ∙ ap₂ (λ (x y : ℕ). x * y) was.width was.height in
    let on : ℕ → Bool = λ k. nat_lt k c.loop-layer.layer in
    let all_below : b.layers ≤ c.loop-layer.layer → (l : ℕ) → l < b.layers → on l ≡ true =
    λ far l low. lt-ltb l c.loop-layer.layer (omega (arith, far, low)) in
    row_rewritten (Some table) write start now chosen long
    (λ k low. slots_long table b.layers b.planes.height b.planes.words.items (b.width * b.planes.height) k []
    (rw long low))
    same_long
    (λ k low. slots_long last.members.table.items last.layers last.planes.height last.planes.words.items
    (last.width * last.planes.height) k [] (rw same_long low) ∙ was.layers)
    c.loop-layer.any was.width was.height was.layers
    (slots_as start chosen after now on (λ l. true) (λ l low. sym (all_below end l low)) was.slots)
    (λ none. left_as start chosen after on (λ l. true) (λ l low. sym (all_below end l low)) (was.quiet none)) was.left

pub returns-then-leaves-clause-rewritten : goal.returns-then-leaves-clause-rewritten
returns-then-leaves-clause-rewritten g c =
    let b = c.args.self.now in
    let table : List ℕ = b.members.table.items in
    let write : CellWrite = write_shown c.args.write.now in
    let start : Grid = grid_shown table b.width b.planes.height b.layers b.planes.words.items in
    let chosen : ℕ → Bool = in_columns b.planes.height c.args.row c.args.columns in
    let after : ℕ → Slot → Slot = slot_after (write_in_room (Some table) write) in
    let stay : AreSlotsLeft start chosen (λ l. true) after = c.leaves.ensures c.if-leaves.true in
    let long : length start.cells ≡ b.width * b.planes.height =
    cells_long table b.layers b.planes.height b.planes.words.items (b.width * b.planes.height) in
    row_rewritten (Some table) write start start chosen long
    (λ k low. slots_long table b.layers b.planes.height b.planes.words.items (b.width * b.planes.height) k []
    (rw long low))
    long
    (λ k low. slots_long table b.layers b.planes.height b.planes.words.items (b.width * b.planes.height) k []
    (rw long low))
    false refl refl refl (slots_stay start chosen after stay) (λ none. stay) (λ all. refl)
