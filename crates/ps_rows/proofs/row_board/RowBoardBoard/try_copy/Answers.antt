use Rattle.std.proofs.Common.{◌∙◌, ap, refl, rules, sym, Some}
use Rattle.ps_rows.proofs.Whole.{copied_grid, copied_motions, copied_objects, copied_rest, copied_whole}
use Rattle.ps_rows.proofs.row_board.RowBoardBoard.try_copy.Goals as goal

pub invariant_of-result-clause-ranges : goal.invariant_of-result-clause-ranges
invariant_of-result-clause-ranges g c = c.in_ok-members.ensures.layers ∙ c.args.self.now.ranges

pub invariant_of-result-clause-whole : goal.invariant_of-result-clause-whole
invariant_of-result-clause-whole g c =
    let b = c.args.self.now in
    copied_whole b.members.table.items c.in_ok-members.members.table.items b.width b.width b.planes.height
    c.in_ok-planes.planes.height b.layers b.layers b.planes.words.items c.in_ok-planes.planes.words.items
    c.in_ok-members.ensures.table refl c.in_ok-planes.ensures.height refl c.in_ok-planes.ensures.words
    b.planes.words.len
    c.in_ok-planes.planes.words.len c.in_ok-planes.planes.words.ok.0 (sym b.planes.words.ok.0) b.whole

pub invariant_of-result-clause-objects : goal.invariant_of-result-clause-objects
invariant_of-result-clause-objects g c =
    let b = c.args.self.now in
    copied_objects b.members.table.items c.in_ok-members.members.table.items b.width b.width b.planes.height
    c.in_ok-planes.planes.height b.layers b.layers b.planes.words.items c.in_ok-planes.planes.words.items
    c.in_ok-members.ensures.table refl c.in_ok-planes.ensures.height refl c.in_ok-planes.ensures.words b.objects

pub invariant_of-result-clause-motions : goal.invariant_of-result-clause-motions
invariant_of-result-clause-motions g c =
    let b = c.args.self.now in
    copied_motions b.members.table.items c.in_ok-members.members.table.items b.width b.width b.planes.height
    c.in_ok-planes.planes.height b.layers b.layers b.planes.words.items c.in_ok-planes.planes.words.items
    c.in_ok-members.ensures.table refl c.in_ok-planes.ensures.height refl c.in_ok-planes.ensures.words b.motions

pub invariant_of-result-clause-rest : goal.invariant_of-result-clause-rest
invariant_of-result-clause-rest g c = λ still.
    let b = c.args.self.now in
    copied_rest b.members.table.items c.in_ok-members.members.table.items b.width b.width b.planes.height
    c.in_ok-planes.planes.height b.layers b.layers b.planes.words.items c.in_ok-planes.planes.words.items
    c.in_ok-members.ensures.table refl c.in_ok-planes.ensures.height refl c.in_ok-planes.ensures.words
    (c.rests.ensures (search rules))

pub returns-clause-grid : goal.returns-clause-grid
returns-clause-grid g c =
    let b = c.args.self.now in
    copied_grid b.members.table.items c.in_ok-members.members.table.items b.width b.width b.planes.height
    c.in_ok-planes.planes.height b.layers b.layers b.planes.words.items c.in_ok-planes.planes.words.items
    c.in_ok-members.ensures.table refl c.in_ok-planes.ensures.height refl c.in_ok-planes.ensures.words

pub returns-clause-table : goal.returns-clause-table
returns-clause-table g c = ap Some c.in_ok-members.ensures.table
