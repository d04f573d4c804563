use Rattle.std.proofs.Common.{◌*◌, ◌∙◌, ℕ, List, sym}
use Rattle.ps_rows.specs.Members.{on_layer}
use Rattle.ps_rows.specs.Showing.{motion_planes, motions_from, AreObjectsShown, AreMotionsShown}
use Rattle.ps_rows.specs.Sameness.{AreSamePlanes}
use Rattle.ps_rows.proofs.Alike.{layer_same, same_objects, same_moves, still_moves, other_whole, other_objects}
use Rattle.ps_rows.proofs.Alike.{other_motions}
use Rattle.ps_rows.proofs.Puts.{planes_whole}
use Rattle.ps_rows.proofs.row_board.RowBoard.same_layer.Goals as goal

pub same_planes-requires-clause-first : goal.same_planes-requires-clause-first
same_planes-requires-clause-first g c =
    let b = c.args.self.now in
    rw c.of-objects.ensures (planes_whole b.members.table.items b.layers b.planes.height b.planes.words.items
    c.args.layer (sym b.planes.words.ok.0 ∙ b.whole))

pub same_planes-requires-clause-second : goal.same_planes-requires-clause-second
same_planes-requires-clause-second g c =
    let b = c.args.self.now in
    let o = c.args.other.now in
    rw c.of-objects.ensures
    (planes_whole b.members.table.items b.layers b.planes.height o.planes.words.items c.args.layer
    (other_whole b.members.table.items o.members.table.items b.layers o.layers b.planes.height o.planes.height _
    c.requires.table c.requires.layers c.requires.height (sym o.planes.words.ok.0 ∙ o.whole)))

pub returns-then-not-same_planes-clause-other : goal.returns-then-not-same_planes-clause-other
returns-then-not-same_planes-clause-other g c = λ same.
    let b = c.args.self.now in
    let o = c.args.other.now in
    let table : List ℕ = b.members.table.items in
    let showing : AreObjectsShown table b.planes.height o.planes.words.items (b.width * b.planes.height) =
    other_objects table o.members.table.items b.width o.width b.planes.height o.planes.height o.planes.words.items
    c.requires.table c.requires.width c.requires.height o.objects in
    let objects : AreSamePlanes b.width b.planes.height b.planes.words.items o.planes.words.items
    c.of-objects.result.now =
    rw c.of-objects.ensures
    (same_objects table b.width b.planes.height b.planes.words.items o.planes.words.items c.args.layer b.objects
    showing same) in
    sym c.if-not-same_planes.true ∙ c.same_planes.ensures.other objects

pub returns-then-stand_still-clause-same : goal.returns-then-stand_still-clause-same
returns-then-stand_still-clause-same g c = λ e.
    let b = c.args.self.now in
    let o = c.args.other.now in
    let table : List ℕ = b.members.table.items in
    let objects : AreSamePlanes b.width b.planes.height b.planes.words.items o.planes.words.items
    (on_layer table c.args.layer) =
    rw (← c.of-objects.ensures) (c.same_planes.ensures.same c.if-not-same_planes.false) in
    layer_same table b.width b.planes.height b.planes.words.items o.planes.words.items c.args.layer b.planes.some_row
    objects
    (still_moves table b.width b.planes.height b.planes.words.items o.planes.words.items c.args.layer
    (c.stand_still.ensures c.if-stand_still.true))

pub returns-clause-same : goal.returns-clause-same
returns-clause-same g c = λ e.
    let b = c.args.self.now in
    let o = c.args.other.now in
    let table : List ℕ = b.members.table.items in
    let layer : ℕ = c.args.layer in
    let told = c.same_planes.ensures.same c.if-not-same_planes.false in
    let objects : AreSamePlanes b.width b.planes.height b.planes.words.items o.planes.words.items
    (on_layer table layer) =
    rw (← c.of-objects.ensures) told in
    let motions : AreSamePlanes b.width b.planes.height b.planes.words.items o.planes.words.items
    (motion_planes (motions_from table layer)) =
    rw (← c.motions_from-first.ensures.first) (c.same_planes-2.ensures.same e) in
    layer_same table b.width b.planes.height b.planes.words.items o.planes.words.items layer b.planes.some_row objects
    motions

pub returns-clause-other : goal.returns-clause-other
returns-clause-other g c = λ same.
    let b = c.args.self.now in
    let o = c.args.other.now in
    let table : List ℕ = b.members.table.items in
    let showing : AreMotionsShown table b.layers b.planes.height o.planes.words.items (b.width * b.planes.height) =
    other_motions table o.members.table.items b.width o.width b.planes.height o.planes.height b.layers o.layers
    o.planes.words.items c.requires.table c.requires.width c.requires.height c.requires.layers o.motions in
    let motions : AreSamePlanes b.width b.planes.height b.planes.words.items o.planes.words.items
    (motion_planes c.motions_from-first.result) =
    rw c.motions_from-first.ensures.first
    (same_moves table b.width b.planes.height b.layers b.planes.words.items o.planes.words.items c.args.layer
    c.requires.layer b.motions showing same) in
    c.same_planes-2.ensures.other motions
