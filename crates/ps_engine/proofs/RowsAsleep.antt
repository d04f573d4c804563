-- Rows that are told to let each other sleep do, on each board: a write without what has no room wakes no more than the
-- whole.
use Rattle.std.proofs.Common.{◌≡◌, ℕ, Bool, true, false, ◌||◌, not, Option, Some, None, List, [], ◌∷◌, map, filter}
use Rattle.std.proofs.Common.{refl}
use Rattle.std.specs.Prelude.{All}
use Rattle.std.specs.List.{list_all}
use Rattle.std.proofs.lemmas.Bool.{and_parts, not_from_true}
use Rattle.std.proofs.lemmas.List.Elements.{All-nil, All-cons, All-append}
use Rattle.ps_model.specs.declared.compiled.LayeredObject.{LayeredObject}
use Rattle.ps_model.specs.declared.compiled.LayerWrite.{LayerWrite}
use Rattle.ps_model.specs.declared.compiled.MotionTest.{MotionTest}
use Rattle.ps_model.specs.board.Places.{cells_in}
use Rattle.ps_model.specs.meaning.Compiled.{CellMask, CellWrite, is_gone}
use Rattle.ps_model.specs.meaning.RuleMeanings.{CellMeaning}
use Rattle.ps_board.specs.Runnable.{has_room_for}
use Rattle.ps_program.specs.declared.cells.CompiledCell.{CompiledCell}
use Rattle.ps_program.specs.declared.rows.CompiledRow.{CompiledRow}
use Rattle.ps_program.specs.CellsShown.{mask_shown, write_shown}
use Rattle.ps_program.specs.Keeping.{comes_not, frees, gives_not, is_rest, keeps_one, lets_sleep, motion_comes_not}
use Rattle.ps_program.specs.Keeping.{puts_not, stays}
use Rattle.ps_program.specs.Sleeping.{cell_lets_sleep, cell_sleeps, row_lets_sleep, row_sleeps, rows_sleep}
use Rattle.ps_program.proofs.KeepingCells.{lets-sleep}
use Rattle.ps_match.specs.InRoom.{write_in_room}
use Rattle.ps_places.specs.Lines.{cell_meaning, part_meaning}
use Rattle.ps_places.specs.RowPlaces.{parts_meaning, row_meaning}
use Rattle.ps_engine.specs.Choosing.{rows_meaning}
use Rattle.ps_places.proofs.KeepingMasks.{all_said, both_said}
use Rattle.ps_places.proofs.WrittenToItself.{all_of_kept}
use Rattle.ps_engine.proofs.Sleeping.{LetSleep, RowsLetSleep, Sleeps}

-- some of a write's layers wake no more than all
module _ (keep : LayerWrite → Bool) (write : CellWrite) where
  abbrev fewer_writes : CellWrite
  fewer_writes = record { gone = write.gone; layers = filter keep write.layers }

  come_still : (one : LayeredObject) → comes_not write one ≡ true → comes_not fewer_writes one ≡ true
  come_still one all = all_of_kept (puts_not one) keep write.layers all

  stay_still : (one : LayeredObject) → stays write one ≡ true → stays fewer_writes one ≡ true
  stay_still one all =
      both_said (not (is_gone write.gone (one.layer).0 one.object)) (list_all (keeps_one (one ∷ []) one) write.layers)
      (not (is_gone write.gone (one.layer).0 one.object))
      (list_all (keeps_one (one ∷ []) one) (filter keep write.layers))
      (λ e. e) (all_of_kept (keeps_one (one ∷ []) one) keep write.layers) all

  motion_still : (test : MotionTest) → motion_comes_not write test ≡ true → motion_comes_not fewer_writes test ≡ true
  motion_still test all =
      let free : Bool = not (is_rest test.motion) || not (frees write test.layer) in
      both_said free (list_all (gives_not test) write.layers) free
      (list_all (gives_not test) (filter keep write.layers))
      (λ e. e) (all_of_kept (gives_not test) keep write.layers) all

  fewer_sleep : (mask : CellMask) → lets_sleep write mask ≡ true → lets_sleep fewer_writes mask ≡ true
  fewer_sleep mask =
      both_said _ _ _ _ (all_said (comes_not write) (comes_not fewer_writes) mask.needed come_still)
      (both_said _ _ _ _ (all_said (stays write) (stays fewer_writes) mask.barred stay_still)
      (both_said _ _ _ _
      (all_said (list_all (comes_not write)) (list_all (comes_not fewer_writes)) mask.one_of
      (λ objects. all_said (comes_not write) (comes_not fewer_writes) objects come_still))
      (all_said (motion_comes_not write) (motion_comes_not fewer_writes) mask.motions motion_still)))

in_room_sleeps : (table : Option (List ℕ)) (write : CellWrite) (mask : CellMask) → lets_sleep write mask ≡ true →
    lets_sleep (write_in_room table write) mask ≡ true
in_room_sleeps None write mask e = e
in_room_sleeps (Some layers) write mask e = fewer_sleep (has_room_for (Some layers)) write mask e

twice_not : (b : Bool) → not (not b) ≡ true → b ≡ true
twice_not true e = refl
twice_not false e = absurd (cc)

cell_asleep : (table : Option (List ℕ)) (writing asking : CompiledCell) →
    cell_sleeps (write_shown writing.write) asking ≡ true →
    Sleeps (cell_meaning table writing) (cell_meaning table asking)
cell_asleep table writing asking e = λ cell off.
    let write : CellWrite = write_shown writing.write in
    let mask : CellMask = mask_shown asking.mask in
    let still : lets_sleep (write_in_room table write) mask ≡ true =
    in_room_sleeps table write mask (twice_not (lets_sleep write mask) e) in
    lets-sleep (write_in_room table write) mask (not_from_true (lets_sleep (write_in_room table write) mask) still)
    cell off

-- all elements of a list, made into others; all cells of some parts
pub all_made : {X Y : Type 0} (test : X → Bool) (f : X → Y) (P : Y → Type 0) (xs : List X) →
    ((x : X) → test x ≡ true → P (f x)) → list_all test xs ≡ true → All P (map f xs)
all_made test f P [] each all = All-nil P
all_made test f P (x ∷ xs) each all =
    let parts = and_parts (test x) (list_all test xs) all in
    All-cons P (f x) (map f xs) (each x parts.0) (all_made test f P xs each parts.1)

all_in_parts : (table : Option (List ℕ)) (test : CompiledCell → Bool) (P : CellMeaning → Type 0)
    (parts : List (List CompiledCell)) → ((cell : CompiledCell) → test cell ≡ true → P (cell_meaning table cell)) →
    list_all (list_all test) parts ≡ true → All P (cells_in (parts_meaning table parts))
all_in_parts table test P [] each all = All-nil P
all_in_parts table test P (part ∷ parts) each all =
    let both = and_parts (list_all test part) (list_all (list_all test) parts) all in
    All-append P (part_meaning table part) (cells_in (parts_meaning table parts))
    (all_made test (cell_meaning table) P part each both.0) (all_in_parts table test P parts each both.1)

-- what the cells of a row write wakes none of the rows
abbrev WakesNone : Option (List ℕ) → List CompiledRow → CellMeaning → Type 0
WakesNone table rows write = All (λ other. All (Sleeps write) (cells_in other)) (rows_meaning table rows)

cell_wakes_none : (table : Option (List ℕ)) (rows : List CompiledRow) (cell : CompiledCell) →
    cell_lets_sleep rows cell ≡ true → WakesNone table rows (cell_meaning table cell)
cell_wakes_none table rows cell lets =
    all_made (row_sleeps (write_shown cell.write)) (row_meaning table)
    (λ other. All (Sleeps (cell_meaning table cell)) (cells_in other)) rows
    (λ row asleep. all_in_parts table (cell_sleeps (write_shown cell.write)) (Sleeps (cell_meaning table cell))
    row.parts
    (λ asking e. cell_asleep table cell asking e) asleep) lets

row_wakes_none : (table : Option (List ℕ)) (rows : List CompiledRow) (row : CompiledRow) →
    row_lets_sleep rows row ≡ true → All (WakesNone table rows) (cells_in (row_meaning table row))
row_wakes_none table rows row lets =
    all_in_parts table (cell_lets_sleep rows) (WakesNone table rows) row.parts
    (λ cell e. cell_wakes_none table rows cell e) lets

pub rows_let_sleep : (table : Option (List ℕ)) (rows : List CompiledRow) → rows_sleep rows ≡ true →
    RowsLetSleep (rows_meaning table rows) (rows_meaning table rows)
rows_let_sleep table rows asleep =
    all_made (row_lets_sleep rows) (row_meaning table)
    (λ row. All (λ other. LetSleep (cells_in row) (cells_in other)) (rows_meaning table rows)) rows
    (λ row lets. λ k d low. λ j e within. row_wakes_none table rows row lets j e within k d low) asleep
