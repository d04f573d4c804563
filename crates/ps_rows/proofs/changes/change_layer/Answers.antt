use Rattle.std.proofs.Common.{◌≡◌, ◌∙◌, ℕ, List, false, refl, sym, subst, Bool}
use Rattle.ps_rows.specs.RowChanges.{AreRowsChanged, AreRowsLeft}
use Rattle.ps_rows.specs.Showing.{motion_planes}
use Rattle.ps_rows.proofs.RowChanges.{layer_made}
use Rattle.ps_rows.proofs.Touched.{objects_stay}
use Rattle.ps_rows.proofs.changes.change_layer.Goals as goal

pub returns-clause-words : goal.returns-clause-words
returns-clause-words g c =
    let p = c.args.planes.now in
    let mid = c.change_rows-changed.new.planes in
    let P : ℕ → Type 0 = λ h. AreRowsChanged h c.args.row c.args.motions mid.words.items
    c.change_motions-any.new.planes.words.items (motion_planes c.args.first) in
    layer_made p.height c.args.row c.args.objects c.args.motions p.words.items mid.words.items
    c.change_motions-any.new.planes.words.items c.args.places.now c.args.first c.requires.row c.requires.below
    c.change_rows-changed.ensures.words
    (subst P c.change_rows-changed.ensures.height c.change_motions-any.ensures.words)

pub returns-clause-objects : goal.returns-clause-objects
returns-clause-objects g c = λ none.
    let p = c.args.planes.now in
    let mid = c.change_rows-changed.new.planes in
    let P : ℕ → Type 0 = λ h. AreRowsChanged h c.args.row c.args.motions mid.words.items
    c.change_motions-any.new.planes.words.items (motion_planes c.args.first) in
    objects_stay p.height c.args.row c.args.first c.args.motions p.words.items mid.words.items
    c.change_motions-any.new.planes.words.items (c.change_rows-changed.ensures.quiet none)
    (subst P c.change_rows-changed.ensures.height c.change_motions-any.ensures.words)

pub returns-clause-quiet : goal.returns-clause-quiet
returns-clause-quiet g c = λ none. c.change_motions-any.ensures.quiet none
    ∙ c.change_rows-changed.ensures.quiet (c.change_motions-any.ensures.before none)

pub returns-clause-left : goal.returns-clause-left
returns-clause-left g c = λ objects motions.
    let p = c.args.planes.now in
    let none : c.change_rows-changed.result ≡ false = c.change_rows-changed.ensures.left refl objects in
    let P : List (List Bool) → Type 0 = λ words.
    AreRowsLeft p.height c.args.row c.args.motions words (motion_planes c.args.first) in
    let H : ℕ → Type 0 = λ h. AreRowsLeft h c.args.row c.args.motions c.change_rows-changed.new.planes.words.items
    (motion_planes c.args.first) in
    c.change_motions-any.ensures.left none (subst H (sym c.change_rows-changed.ensures.height)
    (subst P (sym (c.change_rows-changed.ensures.quiet none)) motions))
