-- A board with rows copied from another one, of the same size for the same game, those of a set, in the planes of all
-- objects: it is one, and what it shows.
use Rattle.std.proofs.Common.{◌≡◌, ◌∙◌, ℕ, ◌*◌, ◌<◌, Bool, List, length, subst, sym}
use Rattle.ps_board.specs.Rows.{DifferOnlyOn}
use Rattle.ps_rows.specs.MixedPlanes.{mixed_planes}
use Rattle.ps_rows.specs.PlaneCopies.{AreRowsOf}
use Rattle.ps_rows.specs.Planes.{AreEmptyFrom, AreSameFrom}
use Rattle.ps_rows.specs.Showing.{AreMotionsShown, AreObjectsShown, grid_shown, motions_from}
use Rattle.ps_rows.proofs.Alike.{other_motions, other_objects, other_whole}
use Rattle.ps_rows.proofs.MixedBoards.{mixed_motions, mixed_objects, mixed_shown}
use Rattle.ps_rows.proofs.MixedPlanes.{mixed_copied}
use Rattle.ps_rows.proofs.PlaneCopies.{rest_left}
use Rattle.ps_rows.proofs.RowsApart.{other_apart}

module _ (table table' : List ℕ) (width width' height height' height'' layers layers' : ℕ) (rows : List Bool)
    (source before after : List (List Bool)) (same : table' ≡ table) (wide : width' ≡ width) (high : height' ≡ height)
    (kept : height'' ≡ height) (deep : layers' ≡ layers) (some : 0 < height)
    (whole : length source ≡ motions_from table layers * height)
    (whole' : length before ≡ motions_from table' layers' * height') (longer : length after ≡ length before)
    (count : ℕ) (counted : count ≡ length table) (rest : AreSameFrom (length table * height) source before)
    (taken : AreRowsOf height 0 count rows source before after) where
  are : AreRowsOf height 0 (length table) rows source before after
  are = let P : ℕ → Type 0 = λ n. AreRowsOf height 0 n rows source before after in subst P counted taken

  long : length source ≡ length before
  long = whole ∙ sym (other_whole table table' layers layers' height height' (length before) same deep high whole')

  mixed_is : after ≡ mixed_planes height rows before source
  mixed_is = mixed_copied height rows before source long (length table) after some rest longer are

  pub copied_objects : AreObjectsShown table height source (width * height) →
      AreObjectsShown table' height' before (width' * height') →
      AreObjectsShown table' height'' after (width' * height'')
  copied_objects shown showing =
      rw (same, wide, kept, mixed_is)
      (mixed_objects table height rows before source some long (width * height)
      (other_objects table table' width width' height height' before same wide high showing) shown)

  pub copied_motions : AreMotionsShown table layers height source (width * height) →
      AreMotionsShown table' layers' height' before (width' * height') →
      AreMotionsShown table' layers' height'' after (width' * height'')
  copied_motions shown showing =
      rw (same, wide, kept, deep, mixed_is)
      (mixed_motions table height rows before source some long layers (width * height)
      (other_motions table table' width width' height height' layers layers' before same wide high deep showing) shown)

  pub copied_rest : AreEmptyFrom (length table' * height') before → AreEmptyFrom (length table' * height'') after
  copied_rest none =
      let here : AreEmptyFrom (length table * height) before = rw (same, high) at none in
      rw (same, kept) (rest_left height (length table) rows source before after some are here)

  -- it shows what that one does, if it showed the same objects outside of the set
  pub copied_grid : DifferOnlyOn rows (grid_shown table width height layers source)
      (grid_shown table' width' height' layers' before) →
      grid_shown table' width' height'' layers' after ≡ grid_shown table width height layers source
  copied_grid apart =
      let here = other_apart table table' width width' height height' layers layers' rows source before same wide high
      deep apart in
      rw (same, wide, kept, deep, mixed_is)
      (mixed_shown table height rows before source some long width layers (λ place from. sym (rest place from))
      (λ row under off column across. sym (here row under off column across)))
