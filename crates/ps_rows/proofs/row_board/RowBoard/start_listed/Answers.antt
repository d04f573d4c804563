use Rattle.std.proofs.Common.{◌≡◌, ◌∷◌, Bool, List, [], ap, length, refl, replicate, subst, sym}
use Rattle.std.proofs.lemmas.List.{nil_from_length}
use Rattle.ps_model.specs.declared.compiled.LayeredObject.{LayeredObject}
use Rattle.ps_model.specs.declared.pieces.Slot.{Slot}
use Rattle.ps_model.specs.board.Grid.{Grid}
use Rattle.ps_rows.specs.RowTests.{held_any, held_of_each}
use Rattle.ps_rows.specs.Showing.{grid_shown}
use Rattle.ps_rows.specs.RowsKept.{AreKept}
use Rattle.ps_rows.proofs.RowsKept.{kept_at_first, kept_by, kept_twice}
use Rattle.ps_rows.proofs.row_board.RowBoard.start_listed.Goals as goal

pub returns-in-None : goal.returns-in-None
returns-in-None g c =
    let b = c.args.self.now in
    let grid : Grid = grid_shown b.members.table.items b.width b.planes.height b.layers b.planes.words.items in
    let all : List (List Bool) = replicate (length c.args.found.now) b.all_columns in
    let none : c.args.lists.now ≡ [] = nil_from_length c.args.lists.now c.in-None.ensures.cases in
    rw (c.fill.ensures, none) (kept_at_first grid c.args.first all (held_of_each []) (λ cell. refl))

pub returns-in-Some : goal.returns-in-Some
returns-in-Some g c =
    let b = c.args.self.now in
    let grid : Grid = grid_shown b.members.table.items b.width b.planes.height b.layers b.planes.words.items in
    let all : List (List Bool) = replicate (length c.args.found.now) b.all_columns in
    let objects : List LayeredObject = c.in-Some.objects.now in
    let others : List (List LayeredObject) = c.in-Some.others.now in
    let some : c.args.lists.now ≡ objects ∷ others = c.in-Some.ensures.cases.0 in
    let P : List LayeredObject → Type 0 =
    λ xs. AreKept grid c.args.first all c.start_any.new.found (held_any xs) in
    kept_by grid c.args.first all c.keep_listed.new.found
    (λ (cell : List Slot). held_of_each (objects ∷ others) cell) (held_of_each c.args.lists.now)
    (λ cell. sym (ap (λ lists. held_of_each lists cell) some))
    (kept_twice grid c.args.first all c.start_any.new.found c.keep_listed.new.found (held_any objects)
    (held_of_each others) (subst P c.as_slice.ensures c.start_any.ensures) c.keep_listed.ensures)
