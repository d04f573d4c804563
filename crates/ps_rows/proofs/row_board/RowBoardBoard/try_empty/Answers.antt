use Rattle.std.proofs.Common.{ℕ, ◌+◌, ◌*◌, List, ap}
use Rattle.std.proofs.Common.{true≢false}
use Rattle.ps_rows.proofs.Rests.{empty_objects, empty_motions}
use Rattle.ps_rows.proofs.Whole.{new_grid, new_whole, have_room}
use Rattle.ps_rows.proofs.row_board.RowBoardBoard.try_empty.Goals as goal

pub invariant_of-result-clause-objects : goal.invariant_of-result-clause-objects
invariant_of-result-clause-objects g c =
    let table : List ℕ = c.in_ok-members.members.table.items in
    let count : ℕ = (c.count.result + 5 * c.args.layers) * c.args.height in
    rw (c.in_ok-planes.ensures.words, c.in_ok-planes.ensures.height)
    (empty_objects table c.args.layers c.args.height (c.args.width * c.args.height) count)

pub invariant_of-result-clause-motions : goal.invariant_of-result-clause-motions
invariant_of-result-clause-motions g c =
    let table : List ℕ = c.in_ok-members.members.table.items in
    let count : ℕ = (c.count.result + 5 * c.args.layers) * c.args.height in
    rw (c.in_ok-planes.ensures.words, c.in_ok-planes.ensures.height)
    (empty_motions table c.args.layers c.args.height (c.args.width * c.args.height) count)

pub returns-clause-grid : goal.returns-clause-grid
returns-clause-grid g c =
    let table : List ℕ = c.in_ok-members.members.table.items in
    let count : ℕ = (c.count.result + 5 * c.args.layers) * c.args.height in
    rw c.in_ok-planes.ensures.height
    (new_grid table c.args.width c.args.height c.args.layers count c.in_ok-planes.planes.words.items
    c.in_ok-planes.ensures.words)

pub returns-clause-room : goal.returns-clause-room
returns-clause-room g c = have_room c.in_ok-members.members.table.items c.args.own_layers.now
    c.in_ok-members.ensures.table

pub invariant_of-result-clause-whole : goal.invariant_of-result-clause-whole
invariant_of-result-clause-whole g c =
    new_whole c.in_ok-members.members.table.items c.args.layers c.args.height c.in_ok-planes.planes.height
    (c.count.result + 5 * c.args.layers) c.in_ok-planes.planes.words.len c.in_ok-planes.planes.words.items
    c.in_ok-planes.planes.words.ok.0 c.in_ok-planes.ensures.words
    (ap (λ (n : ℕ). n + 5 * c.args.layers) c.count.ensures.value) c.in_ok-planes.ensures.height

pub invariant_of-result-clause-rest : goal.invariant_of-result-clause-rest
invariant_of-result-clause-rest g c = λ still. absurd (true≢false still)

pub invariant_of-result-clause-ranges : goal.invariant_of-result-clause-ranges
invariant_of-result-clause-ranges g c = c.in_ok-members.ensures.layers
