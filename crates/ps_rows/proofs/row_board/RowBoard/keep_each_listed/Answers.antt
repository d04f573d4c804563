use Rattle.std.proofs.Common.{◌≡◌, ◌<◌, ◌+◌, ℕ, List, Bool, [], length, refl, subst, arith}
use Rattle.std.specs.Prelude.{slice_index_or}
use Rattle.std.proofs.lemmas.List.{get_or_read_under}
use Rattle.ps_model.specs.board.Grid.{Grid}
use Rattle.ps_rows.specs.Showing.{grid_shown}
use Rattle.ps_rows.specs.RowTests.{held_of_each}
use Rattle.ps_rows.specs.RowsKept.{IsKept}
use Rattle.ps_rows.proofs.KeptRowByRow.{all_kept, none_kept, row_kept}
use Rattle.ps_rows.proofs.row_board.RowBoard.keep_each_listed.Goals as goal

pub loop-step-init : goal.loop-step-init
loop-step-init g c =
    let b = c.args.self.now in
    none_kept (grid_shown b.members.table.items b.width b.planes.height b.layers b.planes.words.items) c.args.first
    c.args.found.now (held_of_each c.args.lists.now)

pub loop-step-preserved : goal.loop-step-preserved
loop-step-preserved g c =
    let b = c.args.self.now in
    let grid : Grid = grid_shown b.members.table.items b.width b.planes.height b.layers b.planes.words.items in
    let step : ℕ = c.loop-step.step in
    let now : List (List Bool) = c.loop-step.found in
    let inside : step < length c.args.found.now = omega (arith, c.loop-step-test.true) in
    let here : c.index-found-step.result ≡ slice_index_or now step [] =
    get_or_read_under now step (length now) c.index-found-step.result [] c.index-found-step.is
    (omega (arith, inside, c.loop-step.invariant.long)) refl in
    let P : List Bool → Type 0 = λ w. IsKept grid (c.args.first + step) w c.listed_row.result
    (held_of_each c.args.lists.now) in
    row_kept grid c.args.first c.args.found.now (held_of_each c.args.lists.now) step now c.listed_row.result inside
    c.loop-step.invariant (subst P here c.listed_row.ensures.kept)

pub returns : goal.returns
returns g c =
    let b = c.args.self.now in
    all_kept (grid_shown b.members.table.items b.width b.planes.height b.layers b.planes.words.items) c.args.first
    c.args.found.now (held_of_each c.args.lists.now) c.loop-step.step c.loop-step.found (omega arith)
    c.loop-step.invariant
