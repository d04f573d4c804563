-- Rows of which columns are kept, row by row and test by test.
use Rattle.std.proofs.Common.{◌≡◌, ◌∙◌, ℕ, ◌+◌, ◌*◌, ◌<◌, ◌≤◌, Bool, true, false, not, ◌&&◌, ◌||◌, List, [], ◌∷◌}
use Rattle.std.proofs.Common.{length, refl, sym, ap, subst, take, get_or, arith}
use Rattle.std.specs.Prelude.{nat_lt, replicate, slice_get, slice_index_or}
use Rattle.std.specs.List.{list_all, list_any}
use Rattle.std.proofs.Math.Bool.{and-false, and-true, and_comm}
use Rattle.std.proofs.lemmas.Bool.{le-ltb}
use Rattle.std.proofs.lemmas.List.{get_or-replicate, length-replicate}
use Rattle.std.proofs.lemmas.List.Folds.{list_all_more, list_any_more}
use Rattle.ps_model.specs.declared.limits.TheConstants.{SIDE_LIMIT}
use Rattle.ps_model.specs.declared.compiled.LayeredObject.{LayeredObject}
use Rattle.ps_model.specs.declared.pieces.Slot.{Slot}
use Rattle.ps_model.specs.board.Grid.{Grid, cell_at}
use Rattle.ps_model.specs.board.Places.{fits_there}
use Rattle.ps_model.specs.meaning.Compiled.{CellMask, mask_fits}
use Rattle.ps_match.specs.InRoom.{meaning_of_mask}
use Rattle.ps_match.specs.ScannedRows.{AreRowsScanned}
use Rattle.ps_board.specs.ColumnSets.{both_columns, column_at, columns_below, columns_without, no_columns}
use Rattle.ps_board.specs.ColumnSets.{row_fits}
use Rattle.ps_board.proofs.ColumnLaws.{columns-agree}
use Rattle.ps_rows.specs.Showing.{cells_shown, grid_shown}
use Rattle.ps_rows.specs.Planes.{IsSet}
use Rattle.ps_rows.specs.RowTests.{IsRowOf, IsWithin, held_all, held_any, held_of_each, is_free, moved_all, narrowed}
use Rattle.ps_rows.specs.RowsKept.{AreKept, IsKept, are_away}
use Rattle.ps_rows.proofs.Rows.{row_told}
use Rattle.ps_rows.proofs.Scans.{and3, mask_free, mask_narrowed}
use Rattle.ps_rows.proofs.Sets.{both_at, none_at, set_where, wide_of, wide_on, without_at}

-- one row ------------------------------------------------------------------------------------------------------------

module _ (g : Grid) (row : ℕ) (columns : List Bool) (test : List Slot → Bool) where
  -- its columns that are in the set of those that pass
  pub kept_both : (word kept : List Bool) → g.width ≤ SIDE_LIMIT → IsRowOf g row word test →
      kept ≡ both_columns columns word → IsKept g row columns kept test
  kept_both word kept narrow told is =
      record {
        part = λ x h.
            ap (λ (w : List Bool). column_at w x) is ∙ both_at columns word x (omega (arith, h, narrow))
            ∙ ap (λ (b : Bool). column_at columns x && b) (told x h);
        within = λ inside x off low.
            ap (λ (w : List Bool). column_at w x) is ∙ both_at columns word x low
            ∙ ap (λ (b : Bool). b && column_at word x) (inside x off low);
        set = λ so.
            let P : List Bool → Type 0 = λ w. IsSet w in
            subst P (sym is) (set_where (λ x. column_at columns x && column_at word x));
      }

  -- none, where none passes
  pub kept_nowhere : (kept : List Bool) → IsRowOf g row no_columns test → kept ≡ no_columns →
      IsKept g row columns kept test
  kept_nowhere kept told is =
      record {
        part = λ x h.
            let none : test (cell_at g (x * g.height + row)) ≡ false = sym (told x h) ∙ none_at x in
            ap (λ (w : List Bool). column_at w x) is ∙ none_at x
            ∙ sym (ap (λ (b : Bool). column_at columns x && b) none ∙ and-false (column_at columns x));
        within = λ inside x off low. ap (λ (w : List Bool). column_at w x) is ∙ none_at x;
        set = λ so.
            let P : List Bool → Type 0 = λ w. IsSet w in
            subst P (sym is) (set_where (λ x. false));
      }

  -- its columns that aren't in the set of those that pass
  pub kept_without : (word kept : List Bool) → g.width ≤ SIDE_LIMIT → IsRowOf g row word test →
      kept ≡ columns_without columns word → IsKept g row columns kept (λ cell. not (test cell))
  kept_without word kept narrow told is =
      record {
        part = λ x h.
            ap (λ (w : List Bool). column_at w x) is ∙ without_at columns word x (omega (arith, h, narrow))
            ∙ ap (λ (b : Bool). column_at columns x && not b) (told x h);
        within = λ inside x off low.
            ap (λ (w : List Bool). column_at w x) is ∙ without_at columns word x low
            ∙ ap (λ (b : Bool). b && not (column_at word x)) (inside x off low);
        set = λ so.
            let P : List Bool → Type 0 = λ w. IsSet w in
            subst P (sym is) (set_where (λ x. column_at columns x && not (column_at word x)));
      }

  -- all, where none passes
  pub kept_everywhere : IsRowOf g row no_columns test → IsKept g row columns columns (λ cell. not (test cell))
  kept_everywhere told =
      record {
        part = λ x h.
            let none : test (cell_at g (x * g.height + row)) ≡ false = sym (told x h) ∙ none_at x in
            sym (ap (λ (b : Bool). column_at columns x && not b) none ∙ and-true (column_at columns x));
        within = λ inside. inside;
        set = λ so. so;
      }

  -- its columns that aren't in the set of those of its columns that don't pass
  turned_round : (own passes : Bool) → (own && not (own && not passes)) ≡ (own && passes)
  turned_round true true = refl
  turned_round true false = refl
  turned_round false passes = refl

  pub kept_round : (away kept : List Bool) → g.width ≤ SIDE_LIMIT →
      IsKept g row columns away (λ cell. not (test cell)) → kept ≡ columns_without columns away →
      IsKept g row columns kept test
  kept_round away kept narrow out is =
      record {
        part = λ x h.
            let own : Bool = column_at columns x in
            ap (λ (w : List Bool). column_at w x) is ∙ without_at columns away x (omega (arith, h, narrow))
            ∙ ap (λ (b : Bool). own && not b) (out.part x h)
            ∙ turned_round own (test (cell_at g (x * g.height + row)));
        within = λ inside x off low.
            ap (λ (w : List Bool). column_at w x) is ∙ without_at columns away x low
            ∙ ap (λ (b : Bool). b && not (column_at away x)) (inside x off low);
        set = λ so.
            let P : List Bool → Type 0 = λ w. IsSet w in
            subst P (sym is) (set_where (λ x. column_at columns x && not (column_at away x)));
      }

  -- another test that says the same
  pub kept_as : (kept : List Bool) (other : List Slot → Bool) → ((cell : List Slot) → test cell ≡ other cell) →
      IsKept g row columns kept test → IsKept g row columns kept other
  kept_as kept other same one =
      record {
        part = λ x h. one.part x h
            ∙ ap (λ (b : Bool). column_at columns x && b) (same (cell_at g (x * g.height + row)));
        within = one.within;
        set = one.set;
      }

  -- one test behind the other
  pub kept_then : (mid kept : List Bool) (other : List Slot → Bool) → IsKept g row columns mid test →
      IsKept g row mid kept other → IsKept g row columns kept (λ cell. test cell && other cell)
  kept_then mid kept other one two =
      record {
        part = λ x h.
            let cell : List Slot = cell_at g (x * g.height + row) in
            two.part x h ∙ ap (λ (b : Bool). b && other cell) (one.part x h)
            ∙ and3 (column_at columns x) (test cell) (other cell);
        within = λ inside. two.within (one.within inside);
        set = λ so. two.set (one.set so);
      }

  -- nothing is asked
  pub kept_whole : ((cell : List Slot) → test cell ≡ true) → IsKept g row columns columns test
  kept_whole all =
      record {
        part = λ x h.
            sym (ap (λ (b : Bool). column_at columns x && b) (all (cell_at g (x * g.height + row)))
            ∙ and-true (column_at columns x));
        within = λ inside. inside;
        set = λ so. so;
      }

-- one more of a list
pub kept_more : {X : Type 0} (g : Grid) (row : ℕ) (q : List Slot → X → Bool) (xs : List X) (i : ℕ) (d : X)
    (columns mid kept : List Bool) → i < length xs → IsKept g row columns mid (λ cell. list_all (q cell) (take i xs)) →
    IsKept g row mid kept (λ cell. q cell (get_or xs i d)) →
    IsKept g row columns kept (λ cell. list_all (q cell) (take (i + 1) xs))
kept_more g row q xs i d columns mid kept below front here =
    kept_as g row columns (λ cell. list_all (q cell) (take i xs) && q cell (get_or xs i d)) kept
    (λ cell. list_all (q cell) (take (i + 1) xs))
    (λ cell. sym (list_all_more (q cell) xs i d below))
    (kept_then g row columns (λ cell. list_all (q cell) (take i xs)) mid kept (λ cell. q cell (get_or xs i d)) front
    here)

-- the first of a list, and then the others
pub kept_first : {X : Type 0} (g : Grid) (row : ℕ) (q : List Slot → X → Bool) (x : X) (xs all : List X)
    (columns mid kept : List Bool) → all ≡ x ∷ xs → IsKept g row columns mid (λ cell. q cell x) →
    IsKept g row mid kept (λ cell. list_all (q cell) xs) → IsKept g row columns kept (λ cell. list_all (q cell) all)
kept_first g row q x xs all columns mid kept is one others =
    kept_as g row columns (λ cell. q cell x && list_all (q cell) xs) kept (λ cell. list_all (q cell) all)
    (λ cell. sym (ap (λ ys. list_all (q cell) ys) is))
    (kept_then g row columns (λ cell. q cell x) mid kept (λ cell. list_all (q cell) xs) one others)

-- a mask's motions, and then one object of each of its lists
pub kept_narrowed : (g : Grid) (row : ℕ) (columns mid kept : List Bool) (mask : CellMask) →
    IsKept g row columns mid (moved_all mask.motions) → IsKept g row mid kept (held_of_each mask.one_of) →
    IsKept g row columns kept (narrowed mask)
kept_narrowed g row columns mid kept mask moving listed =
    kept_as g row columns (λ cell. moved_all mask.motions cell && held_of_each mask.one_of cell) kept (narrowed mask)
    (λ cell. and_comm (moved_all mask.motions cell) (held_of_each mask.one_of cell))
    (kept_then g row columns (moved_all mask.motions) mid kept (held_of_each mask.one_of) moving listed)

-- all rows -----------------------------------------------------------------------------------------------------------

module _ (g : Grid) (first : ℕ) where
  -- another test that says the same
  pub kept_by : (old new : List (List Bool)) (test other : List Slot → Bool) →
      ((cell : List Slot) → test cell ≡ other cell) → AreKept g first old new test → AreKept g first old new other
  kept_by old new test other same kept =
      record {
        long = kept.long;
        each = λ k low.
            kept_as g (first + k) (slice_index_or old k []) test (slice_index_or new k []) other same (kept.each k low);
      }

  -- nothing is asked
  pub kept_at_first : (old : List (List Bool)) (test : List Slot → Bool) → ((cell : List Slot) → test cell ≡ true) →
      AreKept g first old old test
  kept_at_first old test all =
      record {
        long = refl;
        each = λ k low. kept_whole g (first + k) (slice_index_or old k []) test all;
      }

  -- one test behind the other
  pub kept_twice : (old mid new : List (List Bool)) (test other : List Slot → Bool) →
      AreKept g first old mid test → AreKept g first mid new other →
      AreKept g first old new (λ cell. test cell && other cell)
  kept_twice old mid new test other kept more =
      record {
        long = more.long ∙ kept.long;
        each = λ k low.
            kept_then g (first + k) (slice_index_or old k []) test (slice_index_or mid k []) (slice_index_or new k [])
            other (kept.each k low) (more.each k (rw kept.long low));
      }

  -- one more of a list
  pub kept_all_more : {X : Type 0} (q : List Slot → X → Bool) (xs : List X) (i : ℕ) (d : X)
      (old mid new : List (List Bool)) → i < length xs →
      AreKept g first old mid (λ cell. list_all (q cell) (take i xs)) →
      AreKept g first mid new (λ cell. q cell (get_or xs i d)) →
      AreKept g first old new (λ cell. list_all (q cell) (take (i + 1) xs))
  kept_all_more q xs i d old mid new below front here =
      kept_by old new (λ cell. list_all (q cell) (take i xs) && q cell (get_or xs i d))
      (λ cell. list_all (q cell) (take (i + 1) xs))
      (λ cell. sym (list_all_more (q cell) xs i d below))
      (kept_twice old mid new (λ cell. list_all (q cell) (take i xs)) (λ cell. q cell (get_or xs i d)) front here)

  -- of a list its first, where it is all, and its first two, and then the others
  pub kept_alone : {X : Type 0} (q : List Slot → X → Bool) (x : X) (xs : List X) (old new : List (List Bool)) →
      xs ≡ [] → AreKept g first old new (λ cell. q cell x) →
      AreKept g first old new (λ cell. list_all (q cell) (x ∷ xs))
  kept_alone q x xs old new none kept =
      kept_by old new (λ cell. q cell x) (λ cell. list_all (q cell) (x ∷ xs))
      (λ cell. sym (ap (λ zs. q cell x && list_all (q cell) zs) none ∙ and-true (q cell x))) kept

  pub kept_pair : {X : Type 0} (q : List Slot → X → Bool) (x y : X) (xs ys : List X) (old mid new : List (List Bool)) →
      xs ≡ y ∷ ys → AreKept g first old mid (λ cell. q cell x && q cell y) →
      AreKept g first mid new (λ cell. list_all (q cell) ys) →
      AreKept g first old new (λ cell. list_all (q cell) (x ∷ xs))
  kept_pair q x y xs ys old mid new some kept more =
      kept_by old new (λ cell. (q cell x && q cell y) && list_all (q cell) ys) (λ cell. list_all (q cell) (x ∷ xs))
      (λ cell. and3 (q cell x) (q cell y) (list_all (q cell) ys)
      ∙ sym (ap (λ zs. q cell x && list_all (q cell) zs) some))
      (kept_twice old mid new (λ cell. q cell x && q cell y) (λ cell. list_all (q cell) ys) kept more)

  not_either : (a b : Bool) → (not a && not b) ≡ not (a || b)
  not_either true b = refl
  not_either false b = refl

  pub kept_none_more : {X : Type 0} (q : List Slot → X → Bool) (xs : List X) (i : ℕ) (d : X)
      (old mid new : List (List Bool)) → i < length xs →
      AreKept g first old mid (λ cell. not (list_any (q cell) (take i xs))) →
      AreKept g first mid new (λ cell. not (q cell (get_or xs i d))) →
      AreKept g first old new (λ cell. not (list_any (q cell) (take (i + 1) xs)))
  kept_none_more q xs i d old mid new below front here =
      kept_by old new (λ cell. not (list_any (q cell) (take i xs)) && not (q cell (get_or xs i d)))
      (λ cell. not (list_any (q cell) (take (i + 1) xs)))
      (λ cell. not_either (list_any (q cell) (take i xs)) (q cell (get_or xs i d))
      ∙ sym (ap not (list_any_more (q cell) xs i d below)))
      (kept_twice old mid new (λ cell. not (list_any (q cell) (take i xs))) (λ cell. not (q cell (get_or xs i d)))
      front here)

-- of all columns those in which one of some objects stands: all without those in which none does
pub kept_any : (g : Grid) (first count : ℕ) (full : List Bool) (objects : List LayeredObject)
    (away new : List (List Bool)) → g.width ≤ SIDE_LIMIT →
    AreKept g first (replicate count full) away (are_away objects) →
    ((k : ℕ) → k < length away → slice_index_or new k [] ≡ columns_without full (slice_index_or away k [])) →
    length new ≡ length away → AreKept g first (replicate count full) new (held_any objects)
kept_any g first count full objects away new narrow out round long =
    record {
      long = long ∙ out.long;
      each = λ k below.
          let low : k < count = rw (length-replicate count full) at below in
          let own : slice_index_or (replicate count full) k [] ≡ full = get_or-replicate count k full [] low in
          kept_round g (first + k) (slice_index_or (replicate count full) k []) (held_any objects)
          (slice_index_or away k []) (slice_index_or new k []) narrow (out.each k below)
          (round k (rw out.long below)
          ∙ ap (λ (w : List Bool). columns_without w (slice_index_or away k [])) (sym own));
    }

-- a whole mask -------------------------------------------------------------------------------------------------------

module _ (table : List ℕ) (width height layers : ℕ) (words : List (List Bool)) (first : ℕ) (full : List Bool)
    (count : ℕ) (mask : CellMask)
    (filled all free : List (List Bool)) (narrow : width ≤ SIDE_LIMIT) (is : full ≡ columns_below width)
    (low : first + count ≤ height) (fill : filled ≡ replicate count full) where
  abbrev g : Grid
  g = grid_shown table width height layers words

  long_filled : length filled ≡ count
  long_filled = rw fill (length-replicate count full)

  -- a row's columns of the board
  at_first : (k : ℕ) → k < count → slice_index_or filled k [] ≡ full
  at_first k h = rw fill (get_or-replicate count k full [] h)

  -- those that have all, and nothing that is barred
  free_of : AreKept g first filled all (held_all mask.needed) → AreKept g first all free (are_away mask.barred) →
      (k : ℕ) → k < count → IsKept g (first + k) full (slice_index_or free k []) (is_free mask)
  free_of a b k h =
      let P : List Bool → Type 0 = λ w. IsKept g (first + k) w (slice_index_or free k []) (is_free mask) in
      subst P (at_first k h)
      ((kept_twice g first filled all free (held_all mask.needed) (are_away mask.barred) a b).each k (rw long_filled h))

  -- what a row of the board keeps tells which cells pass
  told_of : (row : ℕ) (kept : List Bool) (test : List Slot → Bool) → IsKept g row full kept test →
      IsRowOf g row kept test
  told_of row kept test one x h = one.part x h
      ∙ ap (λ (b : Bool). b && test (cell_at g (x * height + row))) (wide_on full width narrow is x h)

  within_of : IsWithin g full
  within_of x off under = wide_of full width is x under ∙ le-ltb x width off

  set_of : IsSet full
  set_of = let P : List Bool → Type 0 = λ w. IsSet w in subst P (sym is) (set_where (λ x. nat_lt x width))

  -- a row that tells which cells fit is the row's scan
  scanned_of : (k : ℕ) (word : List Bool) → k < count → IsRowOf g (first + k) word (mask_fits mask) →
      IsWithin g word → IsSet word → word ≡ row_fits g (meaning_of_mask mask) (first + k)
  scanned_of k word h inside within set =
      let under : first + k < height = omega (arith, h, low) in
      let fits : ℕ → Bool = λ x. fits_there (meaning_of_mask mask)
      (slice_get (cells_shown table layers height words (width * height)) (x * height + (first + k))) in
      sym set ∙ columns-agree (column_at word) fits
      (row_told table width height layers words (first + k) under mask word inside within)

  pub rows_free : AreKept g first filled all (held_all mask.needed) → AreKept g first all free (are_away mask.barred) →
      mask.one_of ≡ [] → mask.motions ≡ [] → AreRowsScanned g (meaning_of_mask mask) first free
  rows_free a b lists motions k under =
      let h : k < count = rw (← long_filled, ← a.long, ← b.long) under in
      let one = free_of a b k h in
      let word : List Bool = slice_index_or free k [] in
      scanned_of k word h
      (mask_free g (first + k) word mask lists motions (told_of (first + k) word (is_free mask) one))
      (one.within within_of) (one.set set_of)

  pub rows_narrowed : (new : List (List Bool)) → AreKept g first filled all (held_all mask.needed) →
      AreKept g first all free (are_away mask.barred) → AreKept g first free new (narrowed mask) →
      AreRowsScanned g (meaning_of_mask mask) first new
  rows_narrowed new a b n k under =
      let h : k < count = rw (← long_filled, ← a.long, ← b.long, ← n.long) under in
      let one = free_of a b k h in
      let more = n.each k (rw (b.long, a.long, long_filled) h) in
      let word : List Bool = slice_index_or free k [] in
      let last : List Bool = slice_index_or new k [] in
      scanned_of k last h
      (mask_narrowed g (first + k) word last mask (told_of (first + k) word (is_free mask) one) more.part)
      (more.within (one.within within_of)) (more.set (one.set set_of))

  -- where nothing is needed, and what the lists ask comes first
  lists_first : (listed barred moving : Bool) →
      ((listed && not barred) && moving) ≡ (not barred && (listed && moving))
  lists_first true true moving = refl
  lists_first true false moving = refl
  lists_first false true moving = refl
  lists_first false false moving = refl

  pub rows_listed : (new : List (List Bool)) → AreKept g first filled all (held_of_each mask.one_of) →
      AreKept g first all free (are_away mask.barred) → AreKept g first free new (moved_all mask.motions) →
      mask.needed ≡ [] → AreRowsScanned g (meaning_of_mask mask) first new
  rows_listed new a b n none k under =
      let h : k < count = rw (← long_filled, ← a.long, ← b.long, ← n.long) under in
      let apart : List Slot → Bool = λ cell. held_of_each mask.one_of cell && are_away mask.barred cell in
      let last : List Bool = slice_index_or new k [] in
      let kept = kept_by g first filled new (λ cell. apart cell && moved_all mask.motions cell) (mask_fits mask)
      (λ cell.
      lists_first (held_of_each mask.one_of cell) (held_any mask.barred cell) (moved_all mask.motions cell)
      ∙ sym (ap (λ objects. held_all objects cell && (not (held_any mask.barred cell)
      && (held_of_each mask.one_of cell && moved_all mask.motions cell))) none))
      (kept_twice g first filled free new apart (moved_all mask.motions)
      (kept_twice g first filled all free (held_of_each mask.one_of) (are_away mask.barred) a b) n) in
      let P : List Bool → Type 0 = λ w. IsKept g (first + k) w last (mask_fits mask) in
      let one = subst P (at_first k h) (kept.each k (rw long_filled h)) in
      scanned_of k last h (told_of (first + k) last (mask_fits mask) one) (one.within within_of) (one.set set_of)
