-- Rows of planes behind a change.
use Rattle.std.proofs.Common.{◌≡◌, ◌≢◌, ◌∙◌, ℕ, ◌+◌, ◌*◌, ◌<◌, ◌≤◌, inl, inr, Bool, true, false, not, ◌&&◌, ◌||◌, List}
use Rattle.std.proofs.Common.{Option, None, [], length, get_or, take, refl, sym, ap, ap₂, subst, arith}
use Rattle.std.specs.Prelude.{nat_eq, slice_set, if◌then◌else◌}
use Rattle.std.specs.List.{list_any}
use Rattle.std.proofs.lemmas.Bool.{cases_Bool, cases_eq, eq-eqb, eqb-true, or_parts, false_from_ne_true, false≢true}
use Rattle.std.proofs.Math.Nat.{mul-le-mul_left}
use Rattle.std.proofs.lemmas.Nat.{same_from_place}
use Rattle.std.proofs.lemmas.List.{get_or-set_same, get_or-set_other, length-set, set-get_or}
use Rattle.std.proofs.lemmas.List.Folds.{list_any_more}
use Rattle.ps_model.specs.board.Movement.{is_number}
use Rattle.ps_rows.specs.Planes.{AreSets, HavePlanes, IsSet, row_of}
use Rattle.ps_rows.specs.RowChanges.{AreRowsChanged, AreRowsLeft, Change, IsLayerWritten, IsRowLeft, bit_after}
use Rattle.ps_rows.specs.RowChanges.{clearing, row_after, set_in}
use Rattle.ps_rows.specs.RowChanges.{word_after}
use Rattle.ps_rows.specs.Showing.{motion_planes}
use Rattle.ps_rows.proofs.Moves.{five_false, five_high}
use Rattle.ps_rows.proofs.Sets.{alike_at, both_at, either_at, neither_at, none_at, same_by_unlike, same_set, set_where}
use Rattle.ps_rows.proofs.Sets.{without_at}
use Rattle.ps_board.specs.ColumnSets.{both_columns, column_at, columns_without, either_columns, no_columns, set_columns}
use Rattle.ps_board.specs.ColumnSets.{unlike_columns}
use Rattle.ps_board.proofs.ColumnLaws.{none_in}
use Rattle.ps_board.proofs.EmptySets.{empty_of}
use Rattle.ps_model.specs.declared.limits.TheConstants.{SIDE_LIMIT}

-- one row -------------------------------------------------------------------------------------------------------------

word_made : (change : Change) (plane : ℕ) (word set : List Bool) → set ≡ set_in change plane →
    either_columns (columns_without word change.cleared) set ≡ word_after change plane word
unfolding word_after
word_made change plane word set e = ap (either_columns (columns_without word change.cleared)) e

-- where it sets columns
pub word_filled : (change : Change) (plane : ℕ) (word : List Bool) → is_number change.plane plane ≡ true →
    either_columns (columns_without word change.cleared) change.set ≡ word_after change plane word
word_filled change plane word chosen =
    word_made change plane word change.set
    (sym (ap (λ (on : Bool). if on then change.set else no_columns) chosen))

set_at : (on : Bool) (set : List Bool) (x : ℕ) → column_at (if on then set else no_columns) x ≡ (on && column_at set x)
set_at true set x = refl
set_at false set x = none_at x

pub column_at-after : (change : Change) (plane : ℕ) (word : List Bool) (x : ℕ) → x < SIDE_LIMIT →
    column_at (word_after change plane word) x ≡ bit_after change plane x (column_at word x)
unfolding word_after
column_at-after change plane word x low =
    either_at (columns_without word change.cleared) (if is_number change.plane plane then change.set else no_columns) x
    low
    ∙ ap₂ (λ (a b : Bool). a || b) (without_at word change.cleared x low)
    (set_at (is_number change.plane plane) change.set x)

-- it is a set again
pub set_after : (change : Change) (plane : ℕ) (word : List Bool) → IsSet (word_after change plane word)
unfolding word_after
set_after change plane word = set_where (λ x. column_at (columns_without word change.cleared) x || column_at
    (set_in change plane) x)

-- where it sets nothing, it takes columns away
word_bit : (change : Change) (plane : ℕ) (x : ℕ) (before : Bool) → is_number change.plane plane ≡ false →
    bit_after change plane x before ≡ ((before && not (column_at change.cleared x)) || (false && column_at change.set x))
word_bit change plane x before unset =
    ap (λ (on : Bool). (before && not (column_at change.cleared x)) || (on && column_at change.set x)) unset

or_nothing : (before on : Bool) → before ≡ (before || (false && on))
or_nothing true on = refl
or_nothing false on = refl

pub word_cleared : (change : Change) (plane : ℕ) (word : List Bool) → is_number change.plane plane ≡ false →
    columns_without word change.cleared ≡ word_after change plane word
word_cleared change plane word unset =
    same_set (columns_without word change.cleared) (word_after change plane word)
    (set_where (λ x. column_at word x && not (column_at change.cleared x))) (set_after change plane word)
    (λ x low.
    without_at word change.cleared x low
    ∙ or_nothing (column_at word x && not (column_at change.cleared x)) (column_at change.set x)
    ∙ sym (column_at-after change plane word x low ∙ word_bit change plane x (column_at word x) unset))

-- and none, where it would take none
kept_bit : (before off on : Bool) → (before && off) ≡ false → ((before && not off) || (false && on)) ≡ before
kept_bit true true on none = sym none
kept_bit true false on none = refl
kept_bit false off on none = refl

untaken_bit : (before off on : Bool) → ((before && not off) || (false && on)) ≡ before → (before && off) ≡ false
untaken_bit true true on same = sym same
untaken_bit true false on same = refl
untaken_bit false off on same = refl

-- a change made twice
twice : (a c s : Bool) → ((((a && not c) || s) && not c) || s) ≡ ((a && not c) || s)
twice true true true = refl
twice true true false = refl
twice true false true = refl
twice true false false = refl
twice false true true = refl
twice false true false = refl
twice false false true = refl
twice false false false = refl

-- rows ----------------------------------------------------------------------------------------------------------------

-- a row of a plane that stands whole in the words stands in them
pub place_in : (h plane y long : ℕ) → y < h → (plane + 1) * h ≤ long → plane * h + y < long
place_in h plane y long under enough =
    let whole : (plane + 1) * h ≡ plane * h + h = omega arith in omega arith

pub changed_none : (h row : ℕ) (change : Change) (words : List (List Bool)) → AreRowsChanged h row change words words []
changed_none h row change words = record {
  long = refl;
  there = λ p x listed low. absurd (false≢true listed);
  elsewhere = λ p y inside apart. refl;
}

-- a change that clears and sets nothing
as_before : (before on : Bool) → ((before && not false) || (on && false)) ≡ before
as_before true true = refl
as_before true false = refl
as_before false true = refl
as_before false false = refl

bit_kept : (change : Change) → set_columns (either_columns change.cleared change.set) ≡ [] →
    (plane x : ℕ) (before : Bool) → x < SIDE_LIMIT → bit_after change plane x before ≡ before
bit_kept change none plane x before low =
    let parts = neither_at change.cleared change.set none x low in
    ap₂ (λ (a b : Bool). (before && not a) || (is_number change.plane plane && b)) parts.0 parts.1
    ∙ as_before before (is_number change.plane plane)

pub rows_kept : (h row : ℕ) (change : Change) (words : List (List Bool)) (planes : List ℕ) →
    set_columns (either_columns change.cleared change.set) ≡ [] →
    AreRowsChanged h row change words words planes
rows_kept h row change words planes none = record {
  long = refl;
  there = λ p x listed low. sym (bit_kept change none p x (column_at (row_of words (p * h + row)) x) low);
  elsewhere = λ p y inside apart. refl;
}

-- a change that sets nothing, where no plane has a column in the row
pub rows_clear : (h row : ℕ) (change : Change) (words : List (List Bool)) (planes : List ℕ) → change.plane ≡ None →
    ((p : ℕ) → list_any (nat_eq p) planes ≡ true → row_of words (p * h + row) ≡ no_columns) →
    AreRowsChanged h row change words words planes
rows_clear h row change words planes unnamed clear = record {
  long = refl;
  there = λ p x listed low.
      let none : column_at (row_of words (p * h + row)) x ≡ false =
      ap (λ (w : List Bool). column_at w x) (clear p listed) ∙ none_at x in
      none
      ∙ sym (ap₂ (λ (b : Bool) (n : Option ℕ). (b && not (column_at change.cleared x)) ||
      (is_number n p && column_at change.set x)) none unnamed);
  elsewhere = λ p y inside apart. refl;
}

module _ (h row : ℕ) (change : Change) (under : row < h) where
  one_there : (words : List (List Bool)) (q x : ℕ) → x < SIDE_LIMIT → q * h + row < length words →
      column_at (row_of (row_after h row change words q) (q * h + row)) x ≡ bit_after change q x
      (column_at (row_of words (q * h + row)) x)
  one_there words q x low within =
      ap (λ (w : List Bool). column_at w x) (get_or-set_same words (q * h + row)
      (word_after change q (row_of words (q * h + row))) no_columns within)
      ∙ column_at-after change q (row_of words (q * h + row)) x low

  one_elsewhere : (words : List (List Bool)) (q p y : ℕ) → y < h → (y ≡ row → p ≢ q) →
      row_of (row_after h row change words q) (p * h + y) ≡ row_of words (p * h + y)
  one_elsewhere words q p y inside apart =
      get_or-set_other words (q * h + row) (p * h + y) (word_after change q (row_of words (q * h + row))) no_columns
      (λ e. let same = same_from_place p y q row h inside under e in apart same.1 same.0)

  pub changed_more : (words now more : List (List Bool)) (planes : List ℕ) (k : ℕ) → k < length planes →
      HavePlanes h words planes → list_any (nat_eq (get_or planes k 0)) planes ≡ true →
      more ≡ row_after h row change now (get_or planes k 0) → AreRowsChanged h row change words now (take k planes) →
      AreRowsChanged h row change words more (take (k + 1) planes)
  changed_more words now more planes k below have among e so =
      let q : ℕ = get_or planes k 0 in
      let within : q * h + row < length now = rw so.long (place_in h q row (length words) under (have q among)) in
      let listed : (p : ℕ) → list_any (nat_eq p) (take (k + 1) planes) ≡
      (list_any (nat_eq p) (take k planes) || nat_eq p q) = λ p. list_any_more (nat_eq p) planes k 0 below in
      rw e (record {
        long = length-set now (q * h + row) (word_after change q (row_of now (q * h + row))) ∙ so.long;
        there = λ p x here low. elim (cases_eq p q) [
          | inl same ↦
              rw same (one_there now q x low within ∙ elim (cases_Bool (list_any (nat_eq q) (take k planes))) [
                | inl before ↦
                    ap (bit_after change q x) (so.there q x before low)
                    ∙ twice (column_at (row_of words (q * h + row)) x) (column_at change.cleared x)
                    (is_number change.plane q && column_at change.set x)
                | inr first ↦ ap (λ (w : List Bool).
                    bit_after change q x (column_at w x)) (so.elsewhere q row under (λ r. first))
              ])
          | inr other ↦
              let before : list_any (nat_eq p) (take k planes) ≡ true =
              was_listed (list_any (nat_eq p) (take k planes)) p q (sym (listed p) ∙ here) other in
              ap (λ (w : List Bool). column_at w x) (one_elsewhere now q p row under (λ r. other))
              ∙ so.there p x before low
        ];
        elsewhere =
            λ p y inside apart.
            one_elsewhere now q p y inside
            (λ r same. false≢true (sym ((or_parts (list_any (nat_eq p) (take k planes)) (nat_eq p q) (sym (listed p)
            ∙ apart r)).1) ∙ eq-eqb p q same))
            ∙ so.elsewhere p y inside (λ r. (or_parts (list_any (nat_eq p) (take k planes)) (nat_eq p q)
            (sym (listed p) ∙ apart r)).0);
      }) where
        was_listed : (b : Bool) (p q : ℕ) → (b || nat_eq p q) ≡ true → p ≢ q → b ≡ true
        was_listed true p q either other = refl
        was_listed false p q either other = absurd (other (eqb-true p q either))

  -- a row that stays
  pub row_stays : (words : List (List Bool)) (plane : ℕ) (word after : List Bool) → AreSets words →
      word ≡ row_of words (plane * h + row) → after ≡ word_after change plane word →
      set_columns (unlike_columns after word) ≡ [] → words ≡ row_after h row change words plane
  row_stays words plane word after are e f none =
      let place : ℕ = plane * h + row in
      let P : List Bool → Type 0 = λ set. IsSet set in
      let same : after ≡ word = same_set after word (subst P (sym f) (set_after change plane word))
      (subst P (sym e) (are place)) (same_by_unlike after word none) in
      let made : word_after change plane (row_of words place) ≡ row_of words place =
      ap (word_after change plane) (sym e) ∙ sym f ∙ same ∙ e in
      sym (ap (slice_set words place) made ∙ set-get_or words place no_columns)

  pub nothing_unlike : (words : List (List Bool)) (plane : ℕ) (word after : List Bool) →
      word ≡ row_of words (plane * h + row) → after ≡ word_after change plane word →
      IsRowLeft h row change words plane → set_columns (unlike_columns after word) ≡ []
  nothing_unlike words plane word after e f left =
      empty_of (unlike_columns after word)
      (λ x low.
      alike_at after word x low
      (ap (λ (w : List Bool). column_at w x) f ∙ column_at-after change plane word x low
      ∙ ap (λ (w : List Bool). bit_after change plane x (column_at w x)) e ∙ left x low
      ∙ ap (λ (w : List Bool). column_at w x) (sym e)))

  -- a row of which no columns are taken away stays
  pub row_uncleared : (words : List (List Bool)) (plane : ℕ) (word : List Bool) → AreSets words →
      word ≡ row_of words (plane * h + row) → is_number change.plane plane ≡ false →
      set_columns (both_columns word change.cleared) ≡ [] → words ≡ row_after h row change words plane
  row_uncleared words plane word are e unset none =
      row_stays words plane word (word_after change plane word) are e refl
      (empty_of (unlike_columns (word_after change plane word) word)
      (λ x low.
      alike_at (word_after change plane word) word x low
      (column_at-after change plane word x low ∙ word_bit change plane x (column_at word x) unset
      ∙ kept_bit (column_at word x) (column_at change.cleared x) (column_at change.set x)
      (sym (both_at word change.cleared x low) ∙ none_in (both_columns word change.cleared) x none low))))

  pub nothing_cleared : (words : List (List Bool)) (plane : ℕ) (word : List Bool) →
      word ≡ row_of words (plane * h + row) → is_number change.plane plane ≡ false →
      IsRowLeft h row change words plane → set_columns (both_columns word change.cleared) ≡ []
  nothing_cleared words plane word e unset left =
      empty_of (both_columns word change.cleared)
      (λ x low.
      both_at word change.cleared x low
      ∙ untaken_bit (column_at word x) (column_at change.cleared x) (column_at change.set x)
      (sym (word_bit change plane x (column_at word x) unset)
      ∙ ap (λ (w : List Bool). bit_after change plane x (column_at w x)) e ∙ left x low
      ∙ ap (λ (w : List Bool). column_at w x) (sym e)))

-- a change that names no plane is one that clears its columns
clear_bit : (change other : Change) → change.plane ≡ None → other ≡ clearing change.cleared → (p x : ℕ)
    (before : Bool) → bit_after other p x before ≡ bit_after change p x before
clear_bit change other unnamed is p x before =
    ap (λ (c : Change). bit_after c p x before) is
    ∙ sym (ap (λ (n : Option ℕ). (before && not (column_at change.cleared x)) || (is_number n p && column_at change.set x))
    unnamed)

pub cleared_rows : (h row : ℕ) (change other : Change) (words written : List (List Bool)) (planes : List ℕ) →
    change.plane ≡ None → other ≡ clearing change.cleared → AreRowsChanged h row other words written planes →
    AreRowsChanged h row change words written planes
cleared_rows h row change other words written planes unnamed is was = record {
  long = was.long;
  there = λ p x listed low.
      was.there p x listed low ∙ clear_bit change other unnamed is p x (column_at (row_of words (p * h + row)) x);
  elsewhere = was.elsewhere;
}

pub cleared_left : (h row : ℕ) (change other : Change) (words : List (List Bool)) (planes : List ℕ) →
    change.plane ≡ None → other ≡ clearing change.cleared → AreRowsLeft h row change words planes →
    AreRowsLeft h row other words planes
cleared_left h row change other words planes unnamed is left = λ p listed x low.
    clear_bit change other unnamed is p x (column_at (row_of words (p * h + row)) x) ∙ left p listed x low

-- a layer -------------------------------------------------------------------------------------------------------------

pub layer_made : (h row : ℕ) (objects motions : Change) (words mid written : List (List Bool)) (planes : List ℕ)
    (first : ℕ) → row < h → ((p : ℕ) → list_any (nat_eq p) planes ≡ true → p < first) →
    AreRowsChanged h row objects words mid planes → AreRowsChanged h row motions mid written (motion_planes first) →
    IsLayerWritten h row words written planes objects first motions
layer_made h row objects motions words mid written planes first under below front back = record {
  long = back.long ∙ front.long;
  objects_there =
      λ p x listed low.
      ap (λ (w : List Bool). column_at w x) (back.elsewhere p row under (λ e.
      five_false first p (inl (below p listed)))) ∙ front.there p x listed low;
  motions_there =
      λ q x listed low.
      back.there q x listed low
      ∙ ap (λ (w : List Bool). bit_after motions q x (column_at w x))
      (front.elsewhere q row under
      (λ e. false_from_ne_true (list_any (nat_eq q) planes) (λ among.
      false≢true (sym (five_false first q (inl (below q among))) ∙ listed))));
  elsewhere = λ p y inside not_objects not_motions. back.elsewhere p y inside not_motions
      ∙ front.elsewhere p y inside not_objects;
}

pub motions_whole : (h long first : ℕ) (planes : List ℕ) → planes ≡ motion_planes first → (first + 5) * h ≤ long →
    (words : List (List Bool)) → length words ≡ long → HavePlanes h words planes
motions_whole h long first planes e enough words same = λ q listed.
    let among : list_any (nat_eq q) (motion_planes first) ≡ true = ap (list_any (nat_eq q)) (sym e) ∙ listed in
    let next : q + 1 ≤ first + 5 = let high : q < first + 5 = five_high first q among in omega arith in
    let more : h * (q + 1) ≤ h * (first + 5) = mul-le-mul_left h next in
    omega (arith, more, enough, same)
