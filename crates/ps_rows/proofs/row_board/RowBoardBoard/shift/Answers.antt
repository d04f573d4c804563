use Rattle.std.proofs.Common.{◌≡◌, ◌∙◌, ℕ, ◌*◌, Bool, List, Option, None, length, refl, sym}
use Rattle.ps_rows.specs.Showing.{motions_from, object_shown}
use Rattle.ps_rows.proofs.Puts.{planes_whole}
use Rattle.ps_rows.proofs.Rests.{object_read}
use Rattle.ps_rows.proofs.Shifts.{IsShown, bare_shown, shift_grid, shift_motions, shift_noted, shift_objects}
use Rattle.ps_rows.proofs.Shifts.{shift_puts, shift_rests, shifted, shifted_by, shown_facts}
use Rattle.ps_rows.proofs.row_board.RowBoardBoard.shift.Goals as goal

pub shift_cell-requires-clause-planes : goal.shift_cell-requires-clause-planes
shift_cell-requires-clause-planes g c =
    let b = c.args.self.now in
    rw c.of-objects.ensures (planes_whole b.members.table.items b.layers b.planes.height b.planes.words.items
    c.args.layer.0 (sym b.planes.words.ok.0 ∙ b.whole))

pub invariant_of-self-clause-objects : goal.invariant_of-self-clause-objects
invariant_of-self-clause-objects g c =
    let b = c.args.self.now in
    let table : List ℕ = b.members.table.items in
    let layer : ℕ = c.args.layer.0 in
    let first : ℕ = motions_from table layer in
    let words : List (List Bool) = b.planes.words.items in
    let is : IsShown table b.layers b.planes.height (b.width * b.planes.height) words layer =
    shown_facts table b.width b.planes.height b.layers words layer b.planes.some_row b.columns c.requires.place.1
    (sym b.planes.words.ok.0 ∙ b.whole) b.planes.sets b.objects b.motions in
    let bare : object_shown table b.planes.height words c.args.to layer ≡ None =
    bare_shown (object_shown table b.planes.height words c.args.to layer) _ (object_read table b.layers b.planes.height
    words (b.width * b.planes.height) c.args.to layer c.requires.there.0 c.requires.place.1) c.requires.bare in
    let shown : Option ℕ = object_shown table b.planes.height words c.args.cell layer in
    let so : c.clear_motion.new.planes.words.items ≡ shifted table b.layers b.planes.height
    (b.width * b.planes.height) words layer is c.args.cell c.args.to c.requires.place.0 c.requires.there.0 bare shown =
    shifted_by table b.layers b.planes.height (b.width * b.planes.height) words layer is c.args.cell c.args.to
    c.requires.place.0 c.requires.there.0 bare c.shift_cell.new.self.height c.motions_from-first.result
    c.of-objects.result.now c.shift_cell.new.self.words.items c.clear_motion.new.planes.words.items
    c.shift_cell.ensures.height c.motions_from-first.ensures.first c.of-objects.ensures c.shift_cell.ensures.words
    c.clear_motion.ensures.words in
    let same = so ∙ shift_puts table b.layers b.planes.height (b.width * b.planes.height) words layer is c.args.cell
    c.args.to c.requires.place.0 c.requires.there.0 bare shown refl in
    let high : c.clear_motion.new.planes.height ≡ b.planes.height =
    c.clear_motion.ensures.height ∙ c.shift_cell.ensures.height in
    rw (same, high)
    (shift_objects table b.layers b.planes.height (b.width * b.planes.height) words layer is c.args.cell c.args.to
    c.requires.place.0 c.requires.there.0 bare shown refl)

pub invariant_of-self-clause-motions : goal.invariant_of-self-clause-motions
invariant_of-self-clause-motions g c =
    let b = c.args.self.now in
    let table : List ℕ = b.members.table.items in
    let layer : ℕ = c.args.layer.0 in
    let first : ℕ = motions_from table layer in
    let words : List (List Bool) = b.planes.words.items in
    let is : IsShown table b.layers b.planes.height (b.width * b.planes.height) words layer =
    shown_facts table b.width b.planes.height b.layers words layer b.planes.some_row b.columns c.requires.place.1
    (sym b.planes.words.ok.0 ∙ b.whole) b.planes.sets b.objects b.motions in
    let bare : object_shown table b.planes.height words c.args.to layer ≡ None =
    bare_shown (object_shown table b.planes.height words c.args.to layer) _ (object_read table b.layers b.planes.height
    words (b.width * b.planes.height) c.args.to layer c.requires.there.0 c.requires.place.1) c.requires.bare in
    let shown : Option ℕ = object_shown table b.planes.height words c.args.cell layer in
    let so : c.clear_motion.new.planes.words.items ≡ shifted table b.layers b.planes.height
    (b.width * b.planes.height) words layer is c.args.cell c.args.to c.requires.place.0 c.requires.there.0 bare shown =
    shifted_by table b.layers b.planes.height (b.width * b.planes.height) words layer is c.args.cell c.args.to
    c.requires.place.0 c.requires.there.0 bare c.shift_cell.new.self.height c.motions_from-first.result
    c.of-objects.result.now c.shift_cell.new.self.words.items c.clear_motion.new.planes.words.items
    c.shift_cell.ensures.height c.motions_from-first.ensures.first c.of-objects.ensures c.shift_cell.ensures.words
    c.clear_motion.ensures.words in
    let same = so ∙ shift_puts table b.layers b.planes.height (b.width * b.planes.height) words layer is c.args.cell
    c.args.to c.requires.place.0 c.requires.there.0 bare shown refl in
    let high : c.clear_motion.new.planes.height ≡ b.planes.height =
    c.clear_motion.ensures.height ∙ c.shift_cell.ensures.height in
    rw (same, high)
    (shift_motions table b.layers b.planes.height (b.width * b.planes.height) words layer is c.args.cell c.args.to
    c.requires.place.0 c.requires.there.0 bare shown refl)

pub invariant_of-self-clause-rest : goal.invariant_of-self-clause-rest
invariant_of-self-clause-rest g c = λ rests.
    let b = c.args.self.now in
    let table : List ℕ = b.members.table.items in
    let layer : ℕ = c.args.layer.0 in
    let first : ℕ = motions_from table layer in
    let words : List (List Bool) = b.planes.words.items in
    let is : IsShown table b.layers b.planes.height (b.width * b.planes.height) words layer =
    shown_facts table b.width b.planes.height b.layers words layer b.planes.some_row b.columns c.requires.place.1
    (sym b.planes.words.ok.0 ∙ b.whole) b.planes.sets b.objects b.motions in
    let bare : object_shown table b.planes.height words c.args.to layer ≡ None =
    bare_shown (object_shown table b.planes.height words c.args.to layer) _ (object_read table b.layers b.planes.height
    words (b.width * b.planes.height) c.args.to layer c.requires.there.0 c.requires.place.1) c.requires.bare in
    let shown : Option ℕ = object_shown table b.planes.height words c.args.cell layer in
    let so : c.clear_motion.new.planes.words.items ≡ shifted table b.layers b.planes.height
    (b.width * b.planes.height) words layer is c.args.cell c.args.to c.requires.place.0 c.requires.there.0 bare shown =
    shifted_by table b.layers b.planes.height (b.width * b.planes.height) words layer is c.args.cell c.args.to
    c.requires.place.0 c.requires.there.0 bare c.shift_cell.new.self.height c.motions_from-first.result
    c.of-objects.result.now c.shift_cell.new.self.words.items c.clear_motion.new.planes.words.items
    c.shift_cell.ensures.height c.motions_from-first.ensures.first c.of-objects.ensures c.shift_cell.ensures.words
    c.clear_motion.ensures.words in
    let high : c.clear_motion.new.planes.height ≡ b.planes.height =
    c.clear_motion.ensures.height ∙ c.shift_cell.ensures.height in
    rw (so, high)
    (shift_rests table b.layers b.planes.height (b.width * b.planes.height) words layer is c.args.cell c.args.to
    c.requires.place.0 c.requires.there.0 bare shown refl (b.rest rests))

pub invariant_of-self-clause-noted : goal.invariant_of-self-clause-noted
invariant_of-self-clause-noted g c =
    let b = c.args.self.now in
    let table : List ℕ = b.members.table.items in
    let layer : ℕ = c.args.layer.0 in
    let first : ℕ = motions_from table layer in
    let words : List (List Bool) = b.planes.words.items in
    let is : IsShown table b.layers b.planes.height (b.width * b.planes.height) words layer =
    shown_facts table b.width b.planes.height b.layers words layer b.planes.some_row b.columns c.requires.place.1
    (sym b.planes.words.ok.0 ∙ b.whole) b.planes.sets b.objects b.motions in
    let bare : object_shown table b.planes.height words c.args.to layer ≡ None =
    bare_shown (object_shown table b.planes.height words c.args.to layer) _ (object_read table b.layers b.planes.height
    words (b.width * b.planes.height) c.args.to layer c.requires.there.0 c.requires.place.1) c.requires.bare in
    let shown : Option ℕ = object_shown table b.planes.height words c.args.cell layer in
    let so : c.clear_motion.new.planes.words.items ≡ shifted table b.layers b.planes.height
    (b.width * b.planes.height) words layer is c.args.cell c.args.to c.requires.place.0 c.requires.there.0 bare shown =
    shifted_by table b.layers b.planes.height (b.width * b.planes.height) words layer is c.args.cell c.args.to
    c.requires.place.0 c.requires.there.0 bare c.shift_cell.new.self.height c.motions_from-first.result
    c.of-objects.result.now c.shift_cell.new.self.words.items c.clear_motion.new.planes.words.items
    c.shift_cell.ensures.height c.motions_from-first.ensures.first c.of-objects.ensures c.shift_cell.ensures.words
    c.clear_motion.ensures.words in
    let same = so ∙ shift_puts table b.layers b.planes.height (b.width * b.planes.height) words layer is c.args.cell
    c.args.to c.requires.place.0 c.requires.there.0 bare shown refl in
    let high : c.clear_motion.new.planes.height ≡ b.planes.height =
    c.clear_motion.ensures.height ∙ c.shift_cell.ensures.height in
    rw (c.with-self.ensures, c.with.ensures, same, high)
    (shift_noted table b.layers b.planes.height (b.width * b.planes.height) words layer is c.args.cell c.args.to
    c.requires.place.0 c.requires.there.0 bare shown refl (length table) b.origin.value.items
    b.touched b.planes.rows b.noted)

pub returns-clause-grid : goal.returns-clause-grid
returns-clause-grid g c =
    let b = c.args.self.now in
    let table : List ℕ = b.members.table.items in
    let layer : ℕ = c.args.layer.0 in
    let first : ℕ = motions_from table layer in
    let words : List (List Bool) = b.planes.words.items in
    let is : IsShown table b.layers b.planes.height (b.width * b.planes.height) words layer =
    shown_facts table b.width b.planes.height b.layers words layer b.planes.some_row b.columns c.requires.place.1
    (sym b.planes.words.ok.0 ∙ b.whole) b.planes.sets b.objects b.motions in
    let bare : object_shown table b.planes.height words c.args.to layer ≡ None =
    bare_shown (object_shown table b.planes.height words c.args.to layer) _ (object_read table b.layers b.planes.height
    words (b.width * b.planes.height) c.args.to layer c.requires.there.0 c.requires.place.1) c.requires.bare in
    let shown : Option ℕ = object_shown table b.planes.height words c.args.cell layer in
    let so : c.clear_motion.new.planes.words.items ≡ shifted table b.layers b.planes.height
    (b.width * b.planes.height) words layer is c.args.cell c.args.to c.requires.place.0 c.requires.there.0 bare shown =
    shifted_by table b.layers b.planes.height (b.width * b.planes.height) words layer is c.args.cell c.args.to
    c.requires.place.0 c.requires.there.0 bare c.shift_cell.new.self.height c.motions_from-first.result
    c.of-objects.result.now c.shift_cell.new.self.words.items c.clear_motion.new.planes.words.items
    c.shift_cell.ensures.height c.motions_from-first.ensures.first c.of-objects.ensures c.shift_cell.ensures.words
    c.clear_motion.ensures.words in
    let same = so ∙ shift_puts table b.layers b.planes.height (b.width * b.planes.height) words layer is c.args.cell
    c.args.to c.requires.place.0 c.requires.there.0 bare shown refl in
    let high : c.clear_motion.new.planes.height ≡ b.planes.height =
    c.clear_motion.ensures.height ∙ c.shift_cell.ensures.height in
    rw high
    (shift_grid table b.width b.planes.height b.layers words c.clear_motion.new.planes.words.items layer is c.args.cell
    c.args.to c.requires.place.0 c.requires.there.0 bare _
    (object_read table b.layers b.planes.height words (b.width * b.planes.height) c.args.cell layer c.requires.place.0
    c.requires.place.1) same)
