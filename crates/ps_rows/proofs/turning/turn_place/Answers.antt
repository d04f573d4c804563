use Rattle.std.proofs.Common.{◌≡◌, ◌∙◌, ◌<◌, ◌≤◌, ◌*◌, ◌+◌, ◌/◌, ◌%◌, ℕ, Bool, true, false, List, not, length, sym, ap, subst}
use Rattle.std.specs.Prelude.{if◌then◌else◌, nat_eq, slice_set}
use Rattle.ps_board.specs.ColumnSets.{column_at, with_column}
use Rattle.ps_rows.specs.Planes.{IsSet, row_of}
use Rattle.ps_rows.specs.TurnedPlaces.{has_layer, has_place}
use Rattle.ps_rows.proofs.Sets.{set_where}
use Rattle.ps_rows.proofs.TurnedPlaces.{plane_enough, some_cell}
use Rattle.ps_rows.proofs.TurnedPlanes.{cell_turned, layer_below, nothing_turned, rows_behind}
use Rattle.ps_rows.proofs.turning.turn_place.Goals as goal

pub returns-then-not-is_listed-clause-turned : goal.returns-then-not-is_listed-clause-turned
returns-then-not-is_listed-clause-turned g c =
    let p = c.args.planes.now in
    let m = c.args.members.now in
    let cells : ℕ = c.args.width * p.height in
    let off : has_layer m.table.items m.ranges.len (c.args.place / cells) ≡ false =
    sym c.is_listed.ensures ∙ c.if-not-is_listed.true in
    nothing_turned m.table.items m.ranges.len cells c.args.place (has_place c.args.width p.height p.words.items) off

pub set_row-requires-clause-set : goal.set_row-requires-clause-set
set_row-requires-clause-set g c =
    let P : List Bool → Type 0 = λ row. IsSet row in
    let column : ℕ = c.args.place % (c.args.width * c.args.planes.now.height) / c.args.planes.now.height in
    subst P (sym c.with.ensures) (set_where (λ x.
    if nat_eq x column then not c.has.result else column_at c.row-columns.result x))

pub returns-clause-turned : goal.returns-clause-turned
returns-clause-turned g c =
    let p = c.args.planes.now in
    let m = c.args.members.now in
    let width : ℕ = c.args.width in
    let height : ℕ = p.height in
    let cells : ℕ = width * height in
    let object : ℕ = c.args.place / cells in
    let cell : ℕ = c.args.place % cells in
    let words = p.words.items in
    let spot : ℕ = object * height + cell % height in
    let on : has_layer m.table.items m.ranges.len object ≡ true = sym c.is_listed.ensures ∙ c.if-not-is_listed.false in
    let low : object < length m.table.items = layer_below m.table.items m.ranges.len object on in
    let enough : (object + 1) * height ≤ length words = plane_enough (length m.table.items) object height (length words)
    low c.requires.planes in
    let flip : List Bool → List Bool = λ row. with_column row (cell / height) (not (column_at row (cell / height))) in
    let is : c.set_row.new.self.words.items ≡ slice_set words spot (flip (row_of words spot)) =
    c.set_row.ensures.words ∙ ap (slice_set words spot) (c.with.ensures
    ∙ ap (λ (b : Bool). with_column c.row-columns.result (cell / height) (not b)) c.has.ensures
    ∙ ap flip c.row-columns.ensures) in
    cell_turned width height words c.set_row.new.self.words.items c.args.place c.requires.some p.some_row
    (some_cell width height c.requires.some p.some_row) c.requires.short enough is m.table.items m.ranges.len on

pub returns-clause-behind : goal.returns-clause-behind
returns-clause-behind g c = λ q far.
    let p = c.args.planes.now in
    let m = c.args.members.now in
    let width : ℕ = c.args.width in
    let height : ℕ = p.height in
    let cells : ℕ = width * height in
    let object : ℕ = c.args.place / cells in
    let cell : ℕ = c.args.place % cells in
    let words = p.words.items in
    let spot : ℕ = object * height + cell % height in
    let on : has_layer m.table.items m.ranges.len object ≡ true = sym c.is_listed.ensures ∙ c.if-not-is_listed.false in
    let low : object < length m.table.items = layer_below m.table.items m.ranges.len object on in
    let enough : (object + 1) * height ≤ length words = plane_enough (length m.table.items) object height (length words)
    low c.requires.planes in
    let flip : List Bool → List Bool = λ row. with_column row (cell / height) (not (column_at row (cell / height))) in
    let is : c.set_row.new.self.words.items ≡ slice_set words spot (flip (row_of words spot)) =
    c.set_row.ensures.words ∙ ap (slice_set words spot) (c.with.ensures
    ∙ ap (λ (b : Bool). with_column c.row-columns.result (cell / height) (not b)) c.has.ensures
    ∙ ap flip c.row-columns.ensures) in
    rows_behind width height words c.set_row.new.self.words.items c.args.place c.requires.some p.some_row
    (some_cell width height c.requires.some p.some_row) c.requires.short enough is (length m.table.items) low q far
