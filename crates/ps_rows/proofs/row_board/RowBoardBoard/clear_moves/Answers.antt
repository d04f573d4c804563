use Rattle.std.proofs.Common.{◌≡◌, ℕ, ◌*◌, ◌≤◌, ◌∙◌, Bool, List, length, sym, ap, arith}
use Rattle.ps_rows.specs.Showing.{cleared_from, motions_from}
use Rattle.ps_rows.proofs.PlaneCopies.{behind_plane, cleared_empty}
use Rattle.ps_rows.proofs.Rests.{rested_objects, rested_motions, row_kept}
use Rattle.ps_rows.proofs.Touched.{planes_stay}
use Rattle.ps_rows.proofs.Whole.{rest_grid}
use Rattle.ps_rows.proofs.row_board.RowBoardBoard.clear_moves.Goals as goal

pub clear_moved-requires-clause-rest : goal.clear_moved-requires-clause-rest
clear_moved-requires-clause-rest g c = λ still. rw c.count-first.ensures.value (c.args.self.now.rest still)

pub invariant_of-self-clause-rest : goal.invariant_of-self-clause-rest
invariant_of-self-clause-rest g c = λ still.
    let b = c.args.self.now in
    let first : ℕ = length b.members.table.items in
    let all : ℕ = motions_from b.members.table.items b.layers in
    let fewer : first ≤ all = omega arith in
    let less : first * b.planes.height ≤ all * b.planes.height = behind_plane b.planes.height first all fewer in
    let within : first * b.planes.height ≤ length b.planes.words.items =
    omega (arith, less, b.whole, b.planes.words.ok.0) in
    rw (c.clear_moved.ensures.words, c.clear_moved.ensures.height, c.count-first.ensures.value)
    (cleared_empty (first * b.planes.height) b.planes.words.items within)

pub invariant_of-self-clause-objects : goal.invariant_of-self-clause-objects
invariant_of-self-clause-objects g c =
    let b = c.args.self.now in
    let table : List ℕ = b.members.table.items in
    rw (c.clear_moved.ensures.words, c.clear_moved.ensures.height, c.count-first.ensures.value)
    (rested_objects table b.layers b.planes.height (b.width * b.planes.height) b.planes.words.items b.planes.some_row
    (sym b.planes.words.ok.0 ∙ b.whole) b.objects)

pub invariant_of-self-clause-motions : goal.invariant_of-self-clause-motions
invariant_of-self-clause-motions g c =
    let b = c.args.self.now in
    let table : List ℕ = b.members.table.items in
    rw (c.clear_moved.ensures.words, c.clear_moved.ensures.height, c.count-first.ensures.value)
    (rested_motions table b.layers b.planes.height (b.width * b.planes.height) b.planes.words.items b.planes.some_row
    (sym b.planes.words.ok.0 ∙ b.whole))

pub invariant_of-self-clause-noted : goal.invariant_of-self-clause-noted
invariant_of-self-clause-noted g c =
    let b = c.args.self.now in
    let table : List ℕ = b.members.table.items in
    let height : ℕ = b.planes.height in
    let words : List (List Bool) = b.planes.words.items in
    rw (c.clear_moved.ensures.words, c.clear_moved.ensures.height, c.count-first.ensures.value)
    (planes_stay height (length table) b.origin.value.items words (cleared_from (length table * height) words)
    b.touched b.noted
    (λ plane below row under off.
    sym (row_kept table b.layers height 0 words b.planes.some_row (sym b.planes.words.ok.0 ∙ b.whole) plane row below
    under)))

pub returns-clause-grid : goal.returns-clause-grid
returns-clause-grid g c =
    let b = c.args.self.now in
    let table : List ℕ = b.members.table.items in
    let so : c.clear_moved.new.self.words.items ≡ cleared_from (length table * b.planes.height) b.planes.words.items =
    c.clear_moved.ensures.words ∙ ap (λ (first : ℕ).
    cleared_from (first * b.planes.height) b.planes.words.items) c.count-first.ensures.value in
    rw c.clear_moved.ensures.height
    (rest_grid table b.width b.planes.height b.layers b.planes.words.items c.clear_moved.new.self.words.items
    b.planes.some_row (sym b.planes.words.ok.0 ∙ b.whole) so)
