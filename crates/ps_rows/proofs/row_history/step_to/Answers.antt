use Rattle.std.proofs.Common.{◌∙◌, ap, List, Bool}
use Rattle.std.proofs.lemmas.Option.{same_Some}
use Rattle.ps_rows.specs.RowDifferences.{rows_changed}
use Rattle.ps_rows.proofs.RowHistories.{alike_board, alike_shown}
use Rattle.ps_rows.proofs.row_history.step_to.Goals as goal

pub differences-requires : goal.differences-requires
differences-requires g c =
    record {
      height = c.is_alike.ensures.height c.if-is_alike.true;
      layers = c.is_alike.ensures.layers c.if-is_alike.true;
      table = same_Some c.args.other.now.members.table.items c.args.board.now.members.table.items
          (c.is_alike.ensures.table c.if-is_alike.true);
    }

pub returns-in-Some-3-clause-shown : goal.returns-in-Some-3-clause-shown
returns-in-Some-3-clause-shown g c =
    let b = c.args.board.now in
    let o = c.args.other.now in
    let alike = c.is_alike.ensures in
    alike_shown b.members.table.items o.members.table.items b.width o.width b.planes.height o.planes.height b.layers
    o.layers (rows_changed b.planes.height b.planes.words.items c.in-Some-3.rows.items) o.planes.words.items
    (same_Some o.members.table.items b.members.table.items (alike.table c.if-is_alike.true))
    (alike.width c.if-is_alike.true) (alike.height c.if-is_alike.true) (alike.layers c.if-is_alike.true)
    (rw c.in-Some-3.is at c.in_ok-rows.ensures.forth)

pub returns-in-Some-3-clause-on : goal.returns-in-Some-3-clause-on
returns-in-Some-3-clause-on g c =
    let b = c.args.board.now in
    let o = c.args.other.now in
    let alike = c.is_alike.ensures in
    alike_board b.members.table.items o.members.table.items b.width o.width b.planes.height o.planes.height b.layers
    o.layers (rows_changed b.planes.height b.planes.words.items c.in-Some-3.rows.items) o.planes.words.items
    (same_Some o.members.table.items b.members.table.items (alike.table c.if-is_alike.true))
    (alike.width c.if-is_alike.true) (alike.height c.if-is_alike.true) (alike.layers c.if-is_alike.true)
    (rw c.in-Some-3.is at c.in_ok-rows.ensures.forth) o.objects o.motions

pub returns-in-Some-3-clause-back : goal.returns-in-Some-3-clause-back
returns-in-Some-3-clause-back g c =
    let height = c.args.board.now.planes.height in
    ap (λ (words : List (List Bool)). rows_changed height words c.in-Some-3.rows.items)
    (rw c.in-Some-3.is at c.in_ok-rows.ensures.forth) ∙ (rw c.in-Some-3.is at c.in_ok-rows.ensures.back)

pub returns-clause-shown : goal.returns-clause-shown
returns-clause-shown g c = c.in_ok-copy.ensures
