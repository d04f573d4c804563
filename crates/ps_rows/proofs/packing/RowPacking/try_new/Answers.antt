use Rattle.std.proofs.Common.{◌∙◌, length, sym, ap, subst}
use Rattle.std.specs.Prelude.{replicate}
use Rattle.ps_rows.specs.Packings.{IsKey, Packed, packed, packed_grid}
use Rattle.ps_rows.proofs.PackedBoards.{empty_grid, empty_key}
use Rattle.ps_rows.proofs.packing.RowPacking.try_new.Goals as goal

pub returns-in-Ok-clause-start : goal.returns-in-Ok-clause-start
returns-in-Ok-clause-start g c = λ n.
    let b = c.args.start.now in
    let noted = c.in-Ok.noted in
    ap (λ x. packed_grid (packed x.members.table.items x.width x.planes.height x.layers x.planes.words.items
    noted.numbers.items (length noted.places.items)) (replicate n 0)) c.of.ensures
    ∙ empty_grid b.members.table.items b.width b.planes.height b.layers b.planes.words.items noted.numbers.items
    (length noted.places.items) (c.rests.ensures c.if-not-rests.false) n

pub returns-in-Ok-clause-known : goal.returns-in-Ok-clause-known
returns-in-Ok-clause-known g c = λ n.
    let b = c.args.start.now in
    let noted = c.in-Ok.noted in
    let K : Packed → Type 0 = λ p. IsKey p (replicate n 0) in
    subst K (sym (ap (λ x. packed x.members.table.items x.width x.planes.height x.layers x.planes.words.items
    noted.numbers.items (length noted.places.items)) c.of.ensures))
    (empty_key b.members.table.items b.width b.planes.height b.layers b.planes.words.items noted.numbers.items
    (length noted.places.items) b.objects n)
