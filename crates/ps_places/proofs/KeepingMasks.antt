-- A cell's write that keeps another one's mask keeps what that fits, on each board: a write without what has no room
-- keeps no less than
-- the whole.
use Rattle.std.proofs.Common.{◌≡◌, ℕ, Bool, true, ◌&&◌, ◌||◌, not, Option, Some, None, List, [], ◌∷◌, filter, refl}
use Rattle.std.specs.List.{list_all}
use Rattle.std.proofs.lemmas.Bool.{and_parts}
use Rattle.ps_model.specs.declared.compiled.LayeredObject.{LayeredObject}
use Rattle.ps_model.specs.declared.compiled.LayerWrite.{LayerWrite}
use Rattle.ps_model.specs.declared.compiled.MotionTest.{MotionTest}
use Rattle.ps_model.specs.meaning.Compiled.{CellMask, CellWrite, is_gone}
use Rattle.ps_board.specs.Runnable.{has_room_for}
use Rattle.ps_program.specs.declared.cells.CompiledCell.{CompiledCell}
use Rattle.ps_program.specs.CellsShown.{mask_shown, write_shown}
use Rattle.ps_program.specs.Keeping.{comes_not, frees, is_rest, keeps_asked, keeps_one, motion_stays, puts_not}
use Rattle.ps_program.specs.Keeping.{stay_among, stays, stays_among, write_keeps}
use Rattle.ps_program.proofs.KeepingCells.{keeps-what-fits}
use Rattle.ps_match.specs.InRoom.{write_in_room}
use Rattle.ps_places.specs.Lines.{cell_meaning}
use Rattle.ps_places.specs.LeavingAlone.{keeps_mask}
use Rattle.ps_places.proofs.InGroups.{Keeps}
use Rattle.ps_places.proofs.WrittenToItself.{all_of_kept}

-- a test of all that says less
pub all_said : {X : Type 0} (f h : X → Bool) (xs : List X) → ((x : X) → f x ≡ true → h x ≡ true) →
    list_all f xs ≡ true → list_all h xs ≡ true
all_said f h [] less all = refl
all_said f h (x ∷ xs) less all =
    let parts = and_parts (f x) (list_all f xs) all in
    rw (less x parts.0) (all_said f h xs less parts.1)

pub both_said : (a b c d : Bool) → (a ≡ true → c ≡ true) → (b ≡ true → d ≡ true) → (a && b) ≡ true → (c && d) ≡ true
both_said a b c d first second all =
    let parts = and_parts a b all in
    rw (first parts.0) (second parts.1)

-- some of a write's layers keep no less than all
module _ (keep : LayerWrite → Bool) (write : CellWrite) where
  abbrev fewer_writes : CellWrite
  fewer_writes = record { gone = write.gone; layers = filter keep write.layers }

  come_still : (one : LayeredObject) → comes_not write one ≡ true → comes_not fewer_writes one ≡ true
  come_still one all = all_of_kept (puts_not one) keep write.layers all

  among_still : (objects : List LayeredObject) (one : LayeredObject) → stays_among write objects one ≡ true →
      stays_among fewer_writes objects one ≡ true
  among_still objects one all =
      both_said (not (is_gone write.gone (one.layer).0 one.object)) (list_all (keeps_one objects one) write.layers)
      (not (is_gone write.gone (one.layer).0 one.object)) (list_all (keeps_one objects one) (filter keep write.layers))
      (λ e. e) (all_of_kept (keeps_one objects one) keep write.layers) all

  motion_still : (test : MotionTest) → motion_stays write test ≡ true → motion_stays fewer_writes test ≡ true
  motion_still test all =
      let free : Bool = is_rest test.motion || not (frees write test.layer) in
      both_said free (list_all (keeps_asked test) write.layers) free
      (list_all (keeps_asked test) (filter keep write.layers))
      (λ e. e) (all_of_kept (keeps_asked test) keep write.layers) all

  fewer_keep : (mask : CellMask) → write_keeps write mask ≡ true → write_keeps fewer_writes mask ≡ true
  fewer_keep mask =
      both_said _ _ _ _ (all_said (stays write) (stays fewer_writes) mask.needed (λ one. among_still (one ∷ []) one))
      (both_said _ _ _ _ (all_said (comes_not write) (comes_not fewer_writes) mask.barred come_still)
      (both_said _ _ _ _
      (all_said (stay_among write) (stay_among fewer_writes) mask.one_of
      (λ objects. all_said (stays_among write objects) (stays_among fewer_writes objects) objects
      (among_still objects)))
      (all_said (motion_stays write) (motion_stays fewer_writes) mask.motions motion_still)))

pub in_room_keeps : (table : Option (List ℕ)) (write : CellWrite) (mask : CellMask) → write_keeps write mask ≡ true →
    write_keeps (write_in_room table write) mask ≡ true
in_room_keeps None write mask e = e
in_room_keeps (Some layers) write mask e = fewer_keep (has_room_for (Some layers)) write mask e

pub cell_keeps : (table : Option (List ℕ)) (writing asking : CompiledCell) → keeps_mask writing asking ≡ true →
    Keeps (cell_meaning table writing) (cell_meaning table asking)
cell_keeps table writing asking e = λ cell fits.
    let write : CellWrite = write_in_room table (write_shown writing.write) in
    keeps-what-fits write (mask_shown asking.mask) (in_room_keeps table (write_shown writing.write)
    (mask_shown asking.mask) e) cell fits
