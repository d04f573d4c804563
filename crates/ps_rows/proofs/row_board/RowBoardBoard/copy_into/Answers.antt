use Rattle.std.proofs.Common.{◌∙◌, length, ap, sym}
use Rattle.std.proofs.lemmas.Option.{same_Some}
use Rattle.ps_rows.proofs.Alike.{other_whole}
use Rattle.ps_rows.proofs.Touched.{none_touched}
use Rattle.ps_rows.proofs.Whole.{copied_grid, copied_motions, copied_objects, copied_rest, copied_whole}
use Rattle.ps_rows.proofs.row_board.RowBoardBoard.copy_into.Goals as goal

pub invariant_of-other-clause-whole : goal.invariant_of-other-clause-whole
invariant_of-other-clause-whole g c =
    let b = c.args.self.now in
    let o = c.args.other.now in
    let new = c.copy_into.new.other in
    copied_whole b.members.table.items o.members.table.items b.width o.width b.planes.height new.height b.layers
    o.layers b.planes.words.items new.words.items
    (same_Some o.members.table.items b.members.table.items c.requires.table) c.requires.width
    c.copy_into.ensures.height c.requires.layers c.copy_into.ensures.words b.planes.words.len new.words.len
    new.words.ok.0 (sym b.planes.words.ok.0) b.whole

pub invariant_of-other-clause-objects : goal.invariant_of-other-clause-objects
invariant_of-other-clause-objects g c =
    let b = c.args.self.now in
    let o = c.args.other.now in
    let new = c.copy_into.new.other in
    copied_objects b.members.table.items o.members.table.items b.width o.width b.planes.height new.height b.layers
    o.layers b.planes.words.items new.words.items
    (same_Some o.members.table.items b.members.table.items c.requires.table) c.requires.width
    c.copy_into.ensures.height c.requires.layers c.copy_into.ensures.words b.objects

pub invariant_of-other-clause-motions : goal.invariant_of-other-clause-motions
invariant_of-other-clause-motions g c =
    let b = c.args.self.now in
    let o = c.args.other.now in
    let new = c.copy_into.new.other in
    copied_motions b.members.table.items o.members.table.items b.width o.width b.planes.height new.height b.layers
    o.layers b.planes.words.items new.words.items
    (same_Some o.members.table.items b.members.table.items c.requires.table) c.requires.width
    c.copy_into.ensures.height c.requires.layers c.copy_into.ensures.words b.motions

pub invariant_of-other-clause-rest : goal.invariant_of-other-clause-rest
invariant_of-other-clause-rest g c = λ still.
    let b = c.args.self.now in
    let o = c.args.other.now in
    let new = c.copy_into.new.other in
    copied_rest b.members.table.items o.members.table.items b.width o.width b.planes.height new.height b.layers
    o.layers b.planes.words.items new.words.items
    (same_Some o.members.table.items b.members.table.items c.requires.table) c.requires.width
    c.copy_into.ensures.height c.requires.layers c.copy_into.ensures.words (b.rest still)

pub invariant_of-other-clause-noted : goal.invariant_of-other-clause-noted
invariant_of-other-clause-noted g c =
    let new = c.copy_into.new.other in
    none_touched new.height (length c.args.other.now.members.table.items) new.words.items
    c.start_anew.new.origin.value.items c.start_anew.new.touched
    (ap (λ words. words.items) c.start_anew.ensures.origin)

pub returns-clause-grid : goal.returns-clause-grid
returns-clause-grid g c =
    let b = c.args.self.now in
    let o = c.args.other.now in
    let new = c.copy_into.new.other in
    copied_grid b.members.table.items o.members.table.items b.width o.width b.planes.height new.height b.layers
    o.layers b.planes.words.items new.words.items
    (same_Some o.members.table.items b.members.table.items c.requires.table) c.requires.width
    c.copy_into.ensures.height c.requires.layers c.copy_into.ensures.words

pub returns-clause-table : goal.returns-clause-table
returns-clause-table g c = c.requires.table

pub planes_used-planes-requires : goal.planes_used-planes-requires
planes_used-planes-requires g c =
    record {
      height = c.requires.height;
      layers = c.requires.layers;
      table = same_Some c.args.other.now.members.table.items c.args.self.now.members.table.items c.requires.table;
    }

pub copy_into-requires-clause-rest : goal.copy_into-requires-clause-rest
copy_into-requires-clause-rest g c = c.planes_used-planes.ensures.same

pub copy_into-requires-clause-within : goal.copy_into-requires-clause-within
copy_into-requires-clause-within g c = c.planes_used-planes.ensures.within

pub copy_into-requires-clause-count : goal.copy_into-requires-clause-count
copy_into-requires-clause-count g c =
    let b = c.args.self.now in
    let o = c.args.other.now in
    other_whole b.members.table.items o.members.table.items b.layers o.layers b.planes.height o.planes.height
    o.planes.words.len (same_Some o.members.table.items b.members.table.items c.requires.table) c.requires.layers
    c.requires.height o.whole
    ∙ sym b.whole
