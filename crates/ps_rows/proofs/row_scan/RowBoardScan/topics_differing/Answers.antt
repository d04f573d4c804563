use Rattle.std.proofs.Common.{◌≡◌, ◌*◌, ℕ, List}
use Rattle.std.proofs.lemmas.Option.{same_Some}
use Rattle.ps_rows.specs.Showing.{AreMotionsShown, AreObjectsShown}
use Rattle.ps_rows.proofs.Alike.{other_motions, other_objects}
use Rattle.ps_rows.proofs.TopicsTold.{differ_about, grids_alike}
use Rattle.ps_rows.proofs.row_scan.RowBoardScan.topics_differing.Goals as goal

pub returns : goal.returns
returns g c =
    let b = c.args.self.now in
    let o = c.args.other.now in
    let table : List ℕ = b.members.table.items in
    let same : o.members.table.items ≡ table = same_Some o.members.table.items table c.requires.table in
    let height : ℕ = b.planes.height in
    let shown : AreObjectsShown table height o.planes.words.items (b.width * height) =
    other_objects table o.members.table.items b.width o.width height o.planes.height o.planes.words.items
    same c.requires.width c.requires.height o.objects in
    let moves : AreMotionsShown table b.layers height o.planes.words.items (b.width * height) =
    other_motions table o.members.table.items b.width o.width height o.planes.height b.layers o.layers
    o.planes.words.items same c.requires.width c.requires.height c.requires.layers o.motions in
    grids_alike table o.members.table.items b.width o.width height o.planes.height b.layers o.layers
    b.planes.words.items o.planes.words.items c.either.result c.differing_objects-objects.result
    c.differing_motions.result same c.requires.width c.requires.height c.requires.layers c.either.ensures
    (differ_about table b.width height b.layers b.planes.words.items o.planes.words.items b.planes.some_row b.columns
    c.differing_objects-objects.result c.differing_motions.result c.differing_objects-objects.ensures
    c.differing_motions.ensures b.objects shown b.motions moves)
