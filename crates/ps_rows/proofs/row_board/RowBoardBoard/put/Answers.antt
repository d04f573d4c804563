use Rattle.std.proofs.Common.{◌≡◌, ℕ, ◌+◌, ◌*◌, ◌%◌, ◌∙◌, Bool, List, Option, length, ap, sym, refl}
use Rattle.ps_rows.specs.Members.{on_layer}
use Rattle.ps_rows.specs.Planes.{row_of}
use Rattle.ps_rows.specs.Showing.{motions_from, with_slot_in}
use Rattle.ps_rows.proofs.Puts.{planes_whole, objects_kept, motions_kept}
use Rattle.ps_rows.proofs.Touched.{row_touched, slot_elsewhere}
use Rattle.ps_rows.proofs.Whole.{put_facts, put_grid}
use Rattle.ps_rows.proofs.row_board.RowBoardBoard.put.Goals as goal

pub put_slot-requires-clause-objects : goal.put_slot-requires-clause-objects
put_slot-requires-clause-objects g c =
    let b = c.args.self.now in
    rw c.of-objects.ensures (planes_whole b.members.table.items b.layers b.planes.height b.planes.words.items
    c.args.layer.0 (sym b.planes.words.ok.0 ∙ b.whole))

pub invariant_of-self-clause-objects : goal.invariant_of-self-clause-objects
invariant_of-self-clause-objects g c =
    let b = c.args.self.now in
    let table : List ℕ = b.members.table.items in
    let layer : ℕ = c.args.layer.0 in
    let number : Option ℕ = c.number_of-object.result in
    let so : c.put_slot.new.planes.words.items ≡ with_slot_in b.planes.height c.args.cell (on_layer table layer) number
    (motions_from table layer) c.args.motion b.planes.words.items =
    c.put_slot.ensures.words ∙ rw (c.of-objects.ensures, c.motions_from-first.ensures.first) refl in
    let put =
    put_facts table b.width b.planes.height b.layers b.planes.words.items c.args.cell layer number c.args.object
    c.args.motion b.planes.some_row b.columns c.requires.place.0 c.requires.place.1
    (sym b.planes.words.ok.0 ∙ b.whole) c.number_of-object.ensures c.requires.still c.requires.room in
    rw (so, c.put_slot.ensures.height)
    (objects_kept table b.layers b.planes.height (b.width * b.planes.height) b.planes.words.items c.args.cell layer
    number c.args.motion put b.objects)

pub invariant_of-self-clause-motions : goal.invariant_of-self-clause-motions
invariant_of-self-clause-motions g c =
    let b = c.args.self.now in
    let table : List ℕ = b.members.table.items in
    let layer : ℕ = c.args.layer.0 in
    let number : Option ℕ = c.number_of-object.result in
    let so : c.put_slot.new.planes.words.items ≡ with_slot_in b.planes.height c.args.cell (on_layer table layer) number
    (motions_from table layer) c.args.motion b.planes.words.items =
    c.put_slot.ensures.words ∙ rw (c.of-objects.ensures, c.motions_from-first.ensures.first) refl in
    let put =
    put_facts table b.width b.planes.height b.layers b.planes.words.items c.args.cell layer number c.args.object
    c.args.motion b.planes.some_row b.columns c.requires.place.0 c.requires.place.1
    (sym b.planes.words.ok.0 ∙ b.whole) c.number_of-object.ensures c.requires.still c.requires.room in
    rw (so, c.put_slot.ensures.height)
    (motions_kept table b.layers b.planes.height (b.width * b.planes.height) b.planes.words.items c.args.cell layer
    number c.args.motion put b.motions)

pub invariant_of-self-clause-noted : goal.invariant_of-self-clause-noted
invariant_of-self-clause-noted g c =
    let b = c.args.self.now in
    let table : List ℕ = b.members.table.items in
    let layer : ℕ = c.args.layer.0 in
    let height : ℕ = b.planes.height in
    let number : Option ℕ = c.number_of-object.result in
    let new : List (List Bool) = c.put_slot.new.planes.words.items in
    let so : new ≡ with_slot_in height c.args.cell (on_layer table layer) number (motions_from table layer)
    c.args.motion b.planes.words.items =
    c.put_slot.ensures.words ∙ rw (c.of-objects.ensures, c.motions_from-first.ensures.first) refl in
    rw (c.with-self.ensures, c.put_slot.ensures.height)
    (row_touched height (length table) b.origin.value.items b.planes.words.items new b.touched b.noted
    (c.args.cell % height) b.planes.rows
    (λ plane y below under apart.
    ap (λ (words : List (List Bool)). row_of words (plane * height + y)) so
    ∙ slot_elsewhere height c.args.cell (on_layer table layer) number (motions_from table layer) c.args.motion
    b.planes.words.items plane y b.planes.some_row under apart))

pub returns-clause-grid : goal.returns-clause-grid
returns-clause-grid g c =
    let b = c.args.self.now in
    let table : List ℕ = b.members.table.items in
    let layer : ℕ = c.args.layer.0 in
    let number : Option ℕ = c.number_of-object.result in
    let so : c.put_slot.new.planes.words.items ≡ with_slot_in b.planes.height c.args.cell (on_layer table layer) number
    (motions_from table layer) c.args.motion b.planes.words.items =
    c.put_slot.ensures.words ∙ rw (c.of-objects.ensures, c.motions_from-first.ensures.first) refl in
    let put =
    put_facts table b.width b.planes.height b.layers b.planes.words.items c.args.cell layer number c.args.object
    c.args.motion b.planes.some_row b.columns c.requires.place.0 c.requires.place.1
    (sym b.planes.words.ok.0 ∙ b.whole) c.number_of-object.ensures c.requires.still c.requires.room in
    rw c.put_slot.ensures.height
    (put_grid table b.width b.planes.height b.layers b.planes.words.items c.put_slot.new.planes.words.items c.args.cell
    layer number c.args.object c.args.motion put
    c.number_of-object.ensures so)
