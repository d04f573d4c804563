use Rattle.std.proofs.Common.{◌≡◌, ◌∙◌, length, sym}
use Rattle.std.proofs.lemmas.Option.{same_Some}
use Rattle.ps_rows.specs.RowDifferences.{rows_changed}
use Rattle.ps_rows.proofs.Alike.{other_whole}
use Rattle.ps_rows.proofs.MixedBoards.{mixed_alike, mixed_board}
use Rattle.ps_rows.proofs.row_history.step_on.Goals as goal

pub returns-clause-shown : goal.returns-clause-shown
returns-clause-shown g c =
    let b = c.args.board.now in
    let o = c.args.other.now in
    let p = b.planes in
    let alike = c.is_alike.ensures in
    let tables : o.members.table.items ≡ b.members.table.items =
    same_Some o.members.table.items b.members.table.items (alike.table c.if-not-is_alike.false) in
    let long : length o.planes.words.items ≡ length p.words.items =
    other_whole b.members.table.items o.members.table.items b.layers o.layers p.height o.planes.height _
    tables (alike.layers c.if-not-is_alike.false) (alike.height c.if-not-is_alike.false)
    (sym o.planes.words.ok.0 ∙ o.whole)
    ∙ sym (sym p.words.ok.0 ∙ b.whole) in
    mixed_alike b.members.table.items o.members.table.items b.width o.width p.height o.planes.height b.layers o.layers
    c.args.rows (rows_changed p.height p.words.items c.in-Some.found.items) p.words.items o.planes.words.items
    p.some_row long tables (alike.width c.if-not-is_alike.false) (alike.height c.if-not-is_alike.false)
    (alike.layers c.if-not-is_alike.false) (rw c.in-Some.is at c.in_ok-found.ensures.forth)
    (c.stand_still.ensures c.if-not-stand_still.false) c.requires

pub returns-clause-on : goal.returns-clause-on
returns-clause-on g c =
    let b = c.args.board.now in
    let o = c.args.other.now in
    let p = b.planes in
    let alike = c.is_alike.ensures in
    let tables : o.members.table.items ≡ b.members.table.items =
    same_Some o.members.table.items b.members.table.items (alike.table c.if-not-is_alike.false) in
    let long : length o.planes.words.items ≡ length p.words.items =
    other_whole b.members.table.items o.members.table.items b.layers o.layers p.height o.planes.height _
    tables (alike.layers c.if-not-is_alike.false) (alike.height c.if-not-is_alike.false)
    (sym o.planes.words.ok.0 ∙ o.whole)
    ∙ sym (sym p.words.ok.0 ∙ b.whole) in
    mixed_board b.members.table.items o.members.table.items b.width o.width p.height o.planes.height b.layers o.layers
    c.args.rows (rows_changed p.height p.words.items c.in-Some.found.items) p.words.items o.planes.words.items
    p.some_row long tables (alike.width c.if-not-is_alike.false) (alike.height c.if-not-is_alike.false)
    (alike.layers c.if-not-is_alike.false) (rw c.in-Some.is at c.in_ok-found.ensures.forth)
    b.objects b.motions o.objects o.motions
