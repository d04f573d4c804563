use Rattle.std.proofs.Common.{◌≡◌, ◌∙◌, ℕ, List, length, ap, sym}
use Rattle.std.proofs.lemmas.Option.{same_Some}
use Rattle.ps_rows.proofs.Alike.{other_whole}
use Rattle.ps_rows.proofs.CopiedBoards.{copied_grid, copied_motions, copied_objects, copied_rest}
use Rattle.ps_rows.proofs.Touched.{none_touched}
use Rattle.ps_rows.proofs.row_board.RowBoardBoard.copy_rows.Goals as goal

pub invariant_of-other-clause-noted : goal.invariant_of-other-clause-noted
invariant_of-other-clause-noted g c =
    let new = c.copy_rows.new.other in
    none_touched new.height (length c.args.other.now.members.table.items) new.words.items
    c.start_anew.new.origin.value.items c.start_anew.new.touched
    (ap (λ words. words.items) c.start_anew.ensures.origin)

pub invariant_of-other-clause-objects : goal.invariant_of-other-clause-objects
invariant_of-other-clause-objects g c =
    let b = c.args.self.now in
    let o = c.args.other.now in
    let new = c.copy_rows.new.other in
    let table : List ℕ = b.members.table.items in
    copied_objects table o.members.table.items b.width o.width b.planes.height o.planes.height new.height b.layers
    o.layers c.args.rows.now b.planes.words.items o.planes.words.items new.words.items
    (same_Some o.members.table.items table c.requires.table) c.requires.width c.requires.height
    c.copy_rows.ensures.height c.requires.layers b.planes.some_row (sym b.planes.words.ok.0 ∙ b.whole)
    (sym o.planes.words.ok.0 ∙ o.whole) (sym new.words.ok.0 ∙ c.copy_rows.ensures.count ∙ o.planes.words.ok.0)
    c.count-objects.result c.count-objects.ensures.value
    (c.rest_alike.ensures c.if-not-rest_alike.false) c.copy_rows.ensures.words b.objects o.objects

pub invariant_of-other-clause-motions : goal.invariant_of-other-clause-motions
invariant_of-other-clause-motions g c =
    let b = c.args.self.now in
    let o = c.args.other.now in
    let new = c.copy_rows.new.other in
    let table : List ℕ = b.members.table.items in
    copied_motions table o.members.table.items b.width o.width b.planes.height o.planes.height new.height b.layers
    o.layers c.args.rows.now b.planes.words.items o.planes.words.items new.words.items
    (same_Some o.members.table.items table c.requires.table) c.requires.width c.requires.height
    c.copy_rows.ensures.height c.requires.layers b.planes.some_row (sym b.planes.words.ok.0 ∙ b.whole)
    (sym o.planes.words.ok.0 ∙ o.whole) (sym new.words.ok.0 ∙ c.copy_rows.ensures.count ∙ o.planes.words.ok.0)
    c.count-objects.result c.count-objects.ensures.value
    (c.rest_alike.ensures c.if-not-rest_alike.false) c.copy_rows.ensures.words b.motions o.motions

pub invariant_of-other-clause-rest : goal.invariant_of-other-clause-rest
invariant_of-other-clause-rest g c = λ still.
    let b = c.args.self.now in
    let o = c.args.other.now in
    let new = c.copy_rows.new.other in
    let table : List ℕ = b.members.table.items in
    copied_rest table o.members.table.items b.width o.width b.planes.height o.planes.height new.height b.layers
    o.layers c.args.rows.now b.planes.words.items o.planes.words.items new.words.items
    (same_Some o.members.table.items table c.requires.table) c.requires.width c.requires.height
    c.copy_rows.ensures.height c.requires.layers b.planes.some_row (sym b.planes.words.ok.0 ∙ b.whole)
    (sym o.planes.words.ok.0 ∙ o.whole) (sym new.words.ok.0 ∙ c.copy_rows.ensures.count ∙ o.planes.words.ok.0)
    c.count-objects.result c.count-objects.ensures.value
    (c.rest_alike.ensures c.if-not-rest_alike.false) c.copy_rows.ensures.words (o.rest still)

pub returns-clause-grid : goal.returns-clause-grid
returns-clause-grid g c =
    let b = c.args.self.now in
    let o = c.args.other.now in
    let new = c.copy_rows.new.other in
    let table : List ℕ = b.members.table.items in
    copied_grid table o.members.table.items b.width o.width b.planes.height o.planes.height new.height b.layers
    o.layers c.args.rows.now b.planes.words.items o.planes.words.items new.words.items
    (same_Some o.members.table.items table c.requires.table) c.requires.width c.requires.height
    c.copy_rows.ensures.height c.requires.layers b.planes.some_row (sym b.planes.words.ok.0 ∙ b.whole)
    (sym o.planes.words.ok.0 ∙ o.whole) (sym new.words.ok.0 ∙ c.copy_rows.ensures.count ∙ o.planes.words.ok.0)
    c.count-objects.result c.count-objects.ensures.value
    (c.rest_alike.ensures c.if-not-rest_alike.false) c.copy_rows.ensures.words c.requires.only

pub returns-clause-origin : goal.returns-clause-origin
returns-clause-origin g c =
    let b = c.args.self.now in
    let o = c.args.other.now in
    let new = c.copy_rows.new.other in
    let table : List ℕ = b.members.table.items in
    let from : c.start_anew.new.origin.value.items ≡ new.words.items =
    ap (λ words. words.items) c.start_anew.ensures.origin in
    rw from
    (copied_grid table o.members.table.items b.width o.width b.planes.height o.planes.height new.height b.layers
    o.layers c.args.rows.now b.planes.words.items o.planes.words.items new.words.items
    (same_Some o.members.table.items table c.requires.table) c.requires.width c.requires.height
    c.copy_rows.ensures.height c.requires.layers b.planes.some_row (sym b.planes.words.ok.0 ∙ b.whole)
    (sym o.planes.words.ok.0 ∙ o.whole) (sym new.words.ok.0 ∙ c.copy_rows.ensures.count ∙ o.planes.words.ok.0)
    c.count-objects.result c.count-objects.ensures.value
    (c.rest_alike.ensures c.if-not-rest_alike.false) c.copy_rows.ensures.words c.requires.only)

pub copy_rows-requires-clause-count : goal.copy_rows-requires-clause-count
copy_rows-requires-clause-count g c =
    let b = c.args.self.now in
    let o = c.args.other.now in
    other_whole b.members.table.items o.members.table.items b.layers o.layers b.planes.height o.planes.height
    o.planes.words.len (same_Some o.members.table.items b.members.table.items c.requires.table) c.requires.layers
    c.requires.height o.whole
    ∙ sym b.whole
