use Rattle.std.proofs.Common.{◌≡◌, ◌≤◌, ◌<◌, ◌+◌, ◌*◌, ◌∙◌, ℕ, Some, length, refl, sym, arith}
use Rattle.std.proofs.lemmas.Option.{same_Some}
use Rattle.ps_rows.proofs.Alike.{other_whole}
use Rattle.ps_rows.proofs.Passed.{next_enough, objects_within, own_order}
use Rattle.ps_rows.proofs.row_board.RowBoard.same_object_on.Goals as goal

pub returns-then-self-layer-clause-same : goal.returns-then-self-layer-clause-same
returns-then-self-layer-clause-same g c = λ told layer on own.
    let same : layer ≡ c.layer_of-layer.result = same_Some layer c.layer_of-layer.result
    (sym own ∙ c.layer_of-layer.ensures) in
    absurd (omega (arith, same, on, c.if-self-layer.true))

pub returns-then-self-layer-clause-other : goal.returns-then-self-layer-clause-other
returns-then-self-layer-clause-other g c = λ same. refl

pub returns-clause-same : goal.returns-clause-same
returns-clause-same g c = λ told layer on own. c.same_plane_on.ensures.same told

pub returns-clause-other : goal.returns-clause-other
returns-clause-other g c = λ same.
    c.same_plane_on.ensures.other (same c.layer_of-layer.result (omega (arith, c.if-self-layer.false))
    c.layer_of-layer.ensures)

pub same_plane_on-requires-clause-first : goal.same_plane_on-requires-clause-first
same_plane_on-requires-clause-first g c =
    let b = c.args.self.now in
    let table = b.members.table.items in
    next_enough b.planes.height c.args.object (length table) (length table) (length b.planes.words.items)
    b.planes.words.len c.requires.object (own_order (length table))
    (objects_within table b.layers b.planes.height b.planes.words.len b.planes.words.items b.planes.words.ok.0 b.whole)
    b.planes.words.ok.0

pub same_plane_on-requires-clause-second : goal.same_plane_on-requires-clause-second
same_plane_on-requires-clause-second g c =
    let b = c.args.self.now in
    let o = c.args.other.now in
    let table = b.members.table.items in
    next_enough b.planes.height c.args.object (length table) (length table) (length o.planes.words.items)
    o.planes.words.len c.requires.object (own_order (length table))
    (objects_within table b.layers b.planes.height o.planes.words.len o.planes.words.items o.planes.words.ok.0
    (other_whole table o.members.table.items b.layers o.layers b.planes.height o.planes.height o.planes.words.len
    c.requires.table c.requires.layers c.requires.height o.whole))
    o.planes.words.ok.0
