use Rattle.std.proofs.Common.{◌<◌, ◌≤◌, ◌∙◌, Bool, List, length, subst, arith}
use Rattle.std.specs.List.{list_any}
use Rattle.std.proofs.lemmas.List.{take_all}
use Rattle.ps_model.specs.declared.pieces.Slot.{Slot}
use Rattle.ps_model.specs.declared.compiled.LayeredObject.{LayeredObject}
use Rattle.ps_model.specs.board.Grid.{Grid}
use Rattle.ps_model.specs.meaning.Compiled.{is_held_in}
use Rattle.ps_rows.specs.Showing.{grid_shown}
use Rattle.ps_rows.specs.RowTests.{IsRowOf, held_any, held_of_each}
use Rattle.ps_rows.proofs.Scans.{all_none, all_more}
use Rattle.ps_rows.proofs.row_board.RowBoard.lists_row.Goals as goal

-- a cell has one object of a list
abbrev has_one : List Slot → List LayeredObject → Bool
has_one cell objects = list_any (is_held_in cell) objects

pub loop-objects-init : goal.loop-objects-init
loop-objects-init g c =
    let b = c.args.self.now in
    all_none (grid_shown b.members.table.items b.width b.planes.height b.layers b.planes.words.items) c.args.row
    has_one b.columns b.all_columns b.all

pub loop-objects-preserved : goal.loop-objects-preserved
loop-objects-preserved g c =
    let b = c.args.self.now in
    let grid : Grid = grid_shown b.members.table.items b.width b.planes.height b.layers b.planes.words.items in
    let at_index = c.loop-objects.objects-index in
    let below : at_index < length c.args.lists.now = omega arith in
    let P : List LayeredObject → Type 0 = λ xs. IsRowOf grid c.args.row c.any_row.result (held_any xs) in
    rw c.both-word.ensures
    (all_more grid c.args.row has_one b.columns c.args.lists.now at_index c.objects-item.result c.loop-objects.word
    c.any_row.result below c.loop-objects.invariant
    (subst P (c.as_slice.ensures ∙ c.objects-item.is) c.any_row.ensures))

pub returns : goal.returns
returns g c =
    let b = c.args.self.now in
    let end : length c.args.lists.now ≤ c.loop-objects.objects-index = omega arith in
    let P : List (List LayeredObject) → Type 0 =
    λ xs. IsRowOf (grid_shown b.members.table.items b.width b.planes.height b.layers b.planes.words.items) c.args.row
    c.loop-objects.word (held_of_each xs) in
    subst P (take_all c.loop-objects.objects-index c.args.lists.now end) c.loop-objects.invariant
