use Rattle.std.proofs.Common.{◌≤◌, ◌+◌, ◌-◌, ℕ, List, Bool, [], length, refl, sym, subst, arith}
use Rattle.std.specs.Prelude.{slice_index_or}
use Rattle.ps_board.specs.ColumnSets.{both_columns}
use Rattle.ps_model.specs.declared.limits.TheConstants.{SIDE_LIMIT}
use Rattle.ps_model.specs.board.Grid.{Grid}
use Rattle.ps_rows.specs.Showing.{grid_shown}
use Rattle.ps_rows.specs.RowTests.{moved}
use Rattle.ps_rows.proofs.KeptInSet.{AreKeptBut, all_kept_but, kept_at_rest, kept_but_more, none_kept_but, step_of}
use Rattle.ps_rows.proofs.RowsKept.{kept_both}
use Rattle.ps_rows.proofs.row_board.RowBoard.keep_moved_by_row.Goals as goal

pub loop-row-init : goal.loop-row-init
loop-row-init g c =
    let b = c.args.self.now in
    let grid : Grid = grid_shown b.members.table.items b.width b.planes.height b.layers b.planes.words.items in
    let few : c.args.first + length c.args.found.now ≤ SIDE_LIMIT = omega (arith, c.requires, b.planes.rows) in
    none_kept_but grid c.args.first c.args.found.now (moved c.args.test.now) few c.rows_to_ask.result
    c.not_below-asked.result c.below.result c.both-left.result (c.args.first + length c.args.found.now) refl
    c.not_below-asked.ensures c.below.ensures c.both-left.ensures
    (λ k low off columns.
    kept_at_rest grid (c.args.first + k) (moved c.args.test.now) b.columns b.all_columns columns b.all
    (c.rows_to_ask.ensures (c.args.first + k) (omega (arith, low, c.requires)) off))

pub overflow_sub-row : goal.overflow_sub-row
overflow_sub-row g c =
    let b = c.args.self.now in
    let grid : Grid = grid_shown b.members.table.items b.width b.planes.height b.layers b.planes.words.items in
    let few : c.args.first + length c.args.found.now ≤ SIDE_LIMIT = omega (arith, c.requires, b.planes.rows) in
    (step_of grid c.args.first c.args.found.now (moved c.args.test.now) few c.loop-row.left c.take_first.new.self
    c.in-Some.row c.loop-row.found c.in-Some.ensures.some c.loop-row.invariant).0

pub motion_row-requires : goal.motion_row-requires
motion_row-requires g c =
    let b = c.args.self.now in
    let grid : Grid = grid_shown b.members.table.items b.width b.planes.height b.layers b.planes.words.items in
    let few : c.args.first + length c.args.found.now ≤ SIDE_LIMIT = omega (arith, c.requires, b.planes.rows) in
    let among = step_of grid c.args.first c.args.found.now (moved c.args.test.now) few c.loop-row.left
    c.take_first.new.self c.in-Some.row c.loop-row.found c.in-Some.ensures.some c.loop-row.invariant in
    omega (arith, among.1, c.requires)

pub keep_at-requires : goal.keep_at-requires
keep_at-requires g c =
    let b = c.args.self.now in
    let grid : Grid = grid_shown b.members.table.items b.width b.planes.height b.layers b.planes.words.items in
    let few : c.args.first + length c.args.found.now ≤ SIDE_LIMIT = omega (arith, c.requires, b.planes.rows) in
    let among = step_of grid c.args.first c.args.found.now (moved c.args.test.now) few c.loop-row.left
    c.take_first.new.self c.in-Some.row c.loop-row.found c.in-Some.ensures.some c.loop-row.invariant in
    omega (arith, among.0, among.1, c.loop-row.invariant.long)

pub loop-row-preserved : goal.loop-row-preserved
loop-row-preserved g c =
    let b = c.args.self.now in
    let grid : Grid = grid_shown b.members.table.items b.width b.planes.height b.layers b.planes.words.items in
    let few : c.args.first + length c.args.found.now ≤ SIDE_LIMIT = omega (arith, c.requires, b.planes.rows) in
    let row : ℕ = c.in-Some.row in
    let now : List (List Bool) = c.loop-row.found in
    let left : List Bool = c.take_first.new.self in
    let among = step_of grid c.args.first c.args.found.now (moved c.args.test.now) few c.loop-row.left left row now
    c.in-Some.ensures.some c.loop-row.invariant in
    let step : ℕ = row - c.args.first in
    let word : List Bool = both_columns (slice_index_or now step []) c.motion_row.result in
    let P : List (List Bool) → Type 0 = λ sets. AreKeptBut grid c.args.first c.args.found.now left sets
    (moved c.args.test.now) in
    subst P (sym c.keep_at.ensures)
    (kept_but_more grid c.args.first c.args.found.now (moved c.args.test.now) few c.loop-row.left left row step now word
    c.in-Some.ensures.some (omega (arith, among.0)) c.loop-row.invariant
    (kept_both grid row (slice_index_or now step []) (moved c.args.test.now) c.motion_row.result word b.columns
    c.motion_row.ensures refl))

pub returns : goal.returns
returns g c =
    let b = c.args.self.now in
    let few : c.args.first + length c.args.found.now ≤ SIDE_LIMIT = omega (arith, c.requires, b.planes.rows) in
    all_kept_but (grid_shown b.members.table.items b.width b.planes.height b.layers b.planes.words.items) c.args.first
    c.args.found.now (moved c.args.test.now) few c.loop-row.left c.loop-row.found (c.in_default.ensures.none refl)
    c.loop-row.invariant
