use Rattle.std.proofs.Common.{◌≡◌, ◌∙◌, ℕ, ◌*◌, ◌≤◌, Bool, List, None, length, refl, sym, arith}
use Rattle.ps_model.specs.declared.pieces.Motion.TheVariants.{Still}
use Rattle.ps_rows.specs.Planes.{with_cell_in}
use Rattle.ps_rows.specs.Showing.{motion_plane, motion_planes, motions_from, object_shown}
use Rattle.ps_rows.proofs.Rests.{object_read}
use Rattle.ps_rows.proofs.Shifts.{IsShown, given_grid, given_motions, given_objects, motion_noted, shown_facts}
use Rattle.ps_rows.proofs.Shifts.{still_shown}
use Rattle.ps_rows.proofs.row_board.RowBoardBoard.set_motion.Goals as goal

pub invariant_of-self-clause-objects : goal.invariant_of-self-clause-objects
invariant_of-self-clause-objects g c =
    let b = c.args.self.now in
    let table : List ℕ = b.members.table.items in
    let layer : ℕ = c.args.layer.0 in
    let first : ℕ = motions_from table layer in
    let words : List (List Bool) = b.planes.words.items in
    let is : IsShown table b.layers b.planes.height (b.width * b.planes.height) words layer =
    shown_facts table b.width b.planes.height b.layers words layer b.planes.some_row b.columns c.requires.place.1
    (sym b.planes.words.ok.0 ∙ b.whole) b.planes.sets b.objects b.motions in
    let told = object_read table b.layers b.planes.height words (b.width * b.planes.height) c.args.cell layer
    c.requires.place.0 c.requires.place.1 in
    let still : object_shown table b.planes.height words c.args.cell layer ≡ None → c.args.motion ≡ Still =
    still_shown (object_shown table b.planes.height words c.args.cell layer) _ c.args.motion told c.requires.some in
    let so : c.choose_motion.new.planes.words.items ≡ with_cell_in b.planes.height c.args.cell
    (motion_plane first c.args.motion) words (motion_planes first) =
    c.choose_motion.ensures.words ∙ rw c.motions_from-first.ensures.first refl in
    rw (so, c.choose_motion.ensures.height)
    (given_objects table b.layers b.planes.height (b.width * b.planes.height) words layer is c.args.cell c.args.motion
    c.requires.place.0 still)

pub invariant_of-self-clause-motions : goal.invariant_of-self-clause-motions
invariant_of-self-clause-motions g c =
    let b = c.args.self.now in
    let table : List ℕ = b.members.table.items in
    let layer : ℕ = c.args.layer.0 in
    let first : ℕ = motions_from table layer in
    let words : List (List Bool) = b.planes.words.items in
    let is : IsShown table b.layers b.planes.height (b.width * b.planes.height) words layer =
    shown_facts table b.width b.planes.height b.layers words layer b.planes.some_row b.columns c.requires.place.1
    (sym b.planes.words.ok.0 ∙ b.whole) b.planes.sets b.objects b.motions in
    let told = object_read table b.layers b.planes.height words (b.width * b.planes.height) c.args.cell layer
    c.requires.place.0 c.requires.place.1 in
    let still : object_shown table b.planes.height words c.args.cell layer ≡ None → c.args.motion ≡ Still =
    still_shown (object_shown table b.planes.height words c.args.cell layer) _ c.args.motion told c.requires.some in
    let so : c.choose_motion.new.planes.words.items ≡ with_cell_in b.planes.height c.args.cell
    (motion_plane first c.args.motion) words (motion_planes first) =
    c.choose_motion.ensures.words ∙ rw c.motions_from-first.ensures.first refl in
    rw (so, c.choose_motion.ensures.height)
    (given_motions table b.layers b.planes.height (b.width * b.planes.height) words layer is c.args.cell c.args.motion
    c.requires.place.0 still)

pub invariant_of-self-clause-noted : goal.invariant_of-self-clause-noted
invariant_of-self-clause-noted g c =
    let b = c.args.self.now in
    let table : List ℕ = b.members.table.items in
    let layer : ℕ = c.args.layer.0 in
    let first : ℕ = motions_from table layer in
    let words : List (List Bool) = b.planes.words.items in
    let so : c.choose_motion.new.planes.words.items ≡ with_cell_in b.planes.height c.args.cell
    (motion_plane first c.args.motion) words (motion_planes first) =
    c.choose_motion.ensures.words ∙ rw c.motions_from-first.ensures.first refl in
    let behind : length table ≤ first = omega arith in
    rw c.choose_motion.ensures.height
    (motion_noted b.planes.height (length table) first c.args.cell (motion_plane first c.args.motion)
    b.origin.value.items words c.choose_motion.new.planes.words.items b.touched b.planes.some_row behind so b.noted)

pub returns-clause-grid : goal.returns-clause-grid
returns-clause-grid g c =
    let b = c.args.self.now in
    let table : List ℕ = b.members.table.items in
    let layer : ℕ = c.args.layer.0 in
    let first : ℕ = motions_from table layer in
    let words : List (List Bool) = b.planes.words.items in
    let is : IsShown table b.layers b.planes.height (b.width * b.planes.height) words layer =
    shown_facts table b.width b.planes.height b.layers words layer b.planes.some_row b.columns c.requires.place.1
    (sym b.planes.words.ok.0 ∙ b.whole) b.planes.sets b.objects b.motions in
    let told = object_read table b.layers b.planes.height words (b.width * b.planes.height) c.args.cell layer
    c.requires.place.0 c.requires.place.1 in
    let still : object_shown table b.planes.height words c.args.cell layer ≡ None → c.args.motion ≡ Still =
    still_shown (object_shown table b.planes.height words c.args.cell layer) _ c.args.motion told c.requires.some in
    let so : c.choose_motion.new.planes.words.items ≡ with_cell_in b.planes.height c.args.cell
    (motion_plane first c.args.motion) words (motion_planes first) =
    c.choose_motion.ensures.words ∙ rw c.motions_from-first.ensures.first refl in
    rw (so, c.choose_motion.ensures.height)
    (given_grid table b.width b.planes.height b.layers words layer is c.args.cell c.args.motion _ c.requires.place.0
    still told)
