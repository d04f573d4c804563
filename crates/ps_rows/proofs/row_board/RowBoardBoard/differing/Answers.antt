use Rattle.std.proofs.Common.{◌≡◌}
use Rattle.std.proofs.lemmas.Option.{same_Some}
use Rattle.ps_rows.proofs.Alike.{other_whole}
use Rattle.ps_rows.proofs.Passed.{objects_within}
use Rattle.ps_rows.proofs.SameRows.{others_same}
use Rattle.ps_rows.proofs.row_board.RowBoardBoard.differing.Goals as goal

pub returns : goal.returns
returns g c =
    let b = c.args.self.now in
    let o = c.args.other.now in
    let tables : o.members.table.items ≡ b.members.table.items =
    same_Some o.members.table.items b.members.table.items c.requires.table in
    rw (tables, c.requires.layers, c.requires.height, c.requires.width)
    (others_same b.members.table.items b.width b.planes.height b.layers b.planes.words.items o.planes.words.items
    c.args.row c.differing_row.result c.requires.row
    b.columns (rw (c.count-objects.ensures.value, c.as_slice-here.ensures.value, c.as_slice-there.ensures.value) at
    c.differing_row.ensures))

pub returns-then-are_many : goal.returns-then-are_many
returns-then-are_many g c =
    let b = c.args.self.now in
    let o = c.args.other.now in
    let tables : o.members.table.items ≡ b.members.table.items =
    same_Some o.members.table.items b.members.table.items c.requires.table in
    rw (tables, c.requires.layers, c.requires.height, c.requires.width)
    (others_same b.members.table.items b.width b.planes.height b.layers b.planes.words.items o.planes.words.items
    c.args.row c.differing_in.result c.requires.row b.columns (rw c.count-objects.ensures.value at c.differing_in.ensures))

pub differing_in-requires-clause-here : goal.differing_in-requires-clause-here
differing_in-requires-clause-here g c =
    let b = c.args.self.now in
    rw (c.count-objects.ensures.value, b.planes.words.ok.0)
    (objects_within b.members.table.items b.layers b.planes.height b.planes.words.len b.planes.words.items
    b.planes.words.ok.0 b.whole)

pub differing_in-requires-clause-there : goal.differing_in-requires-clause-there
differing_in-requires-clause-there g c =
    let b = c.args.self.now in
    let o = c.args.other.now in
    rw (c.count-objects.ensures.value, o.planes.words.ok.0)
    (objects_within b.members.table.items b.layers b.planes.height o.planes.words.len o.planes.words.items
    o.planes.words.ok.0
    (other_whole b.members.table.items o.members.table.items b.layers o.layers b.planes.height o.planes.height
    o.planes.words.len (same_Some o.members.table.items b.members.table.items c.requires.table) c.requires.layers
    c.requires.height o.whole))

pub differing_row-requires-clause-first : goal.differing_row-requires-clause-first
differing_row-requires-clause-first g c =
    let b = c.args.self.now in
    rw (c.count-objects.ensures.value, c.as_slice-here.ensures.value)
    (objects_within b.members.table.items b.layers b.planes.height b.planes.words.len b.planes.words.items
    b.planes.words.ok.0 b.whole)

pub differing_row-requires-clause-second : goal.differing_row-requires-clause-second
differing_row-requires-clause-second g c =
    let b = c.args.self.now in
    let o = c.args.other.now in
    rw (c.count-objects.ensures.value, c.as_slice-there.ensures.value)
    (objects_within b.members.table.items b.layers b.planes.height o.planes.words.len o.planes.words.items
    o.planes.words.ok.0
    (other_whole b.members.table.items o.members.table.items b.layers o.layers b.planes.height o.planes.height
    o.planes.words.len (same_Some o.members.table.items b.members.table.items c.requires.table) c.requires.layers
    c.requires.height o.whole))

pub differing_in-requires-clause-many : goal.differing_in-requires-clause-many
differing_in-requires-clause-many g c = c.are_many.ensures c.if-are_many.true
