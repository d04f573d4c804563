-- Columns of a row of the board that have one of another set apart from them.
use Rattle.std.proofs.Common.{◌≡◌, ◌∙◌, ℕ, zero, suc, ◌+◌, ◌-◌, ◌<◌, ◌≤◌, ◌||◌, ◌&&◌, inl, inr, Bool, true, false}
use Rattle.std.proofs.Common.{not, cond, Option, List, [], ◌∷◌, length, refl, sym, ap, ap₂, arith}
use Rattle.std.specs.Prelude.{nat_eq, nat_le, nat_lt, slice_index_or, slice_set}
use Rattle.std.specs.List.{list_any, range_with_len}
use Rattle.std.proofs.Math.Bool.{and-false, or-false, or_assoc}
use Rattle.std.proofs.lemmas.Bool.{and_parts, cases_eq, cases_lt, le-ltb, lt-ltb, not-true}
use Rattle.std.proofs.lemmas.Bool.Decides.{nat_tests}
use Rattle.std.proofs.lemmas.List.{get_or-set_same, get_or-set_other}
use Rattle.ps_model.specs.declared.limits.TheConstants.{SIDE_LIMIT}
use Rattle.ps_model.specs.board.Grid.{Grid}
use Rattle.ps_laws.proofs.common.Truths.{same_tests}
use Rattle.ps_board.specs.ColumnSets.{both_columns, column_at, columns_behind, columns_below}
use Rattle.ps_board.specs.ColumnSets.{columns_without, either_columns, no_columns, set_columns, with_column}
use Rattle.ps_board.proofs.Taken.{first_least}
use Rattle.ps_board.proofs.ColumnLaws.{column_at-beyond, column_at-where, first_in, none_in, with_here, with_other}
use Rattle.ps_match.proofs.Chosen.{any_none}
use Rattle.ps_program.specs.declared.cells.CompiledCell.{CompiledCell}
use Rattle.ps_places.specs.PartTargets.{IsReach, IsRowKept, is_kept, is_paired, is_within}
use Rattle.ps_places.specs.Starts.{AreWhere, begins_down}
use Rattle.ps_places.proofs.AnyOf.{any-found, any-here, all}
use Rattle.ps_places.proofs.FoundDown.{below_edge}
use Rattle.ps_places.proofs.LineSets.{none_has, with_below}
use Rattle.ps_places.proofs.RowsTogether.{le_true}

-- reaching to the left ------------------------------------------------------------------------------------------------

any-join : (f : ℕ → Bool) (a n m k j : ℕ) → k ≡ n + m → j ≡ a + n →
    list_any f (range_with_len a k) ≡ (list_any f (range_with_len a n) || list_any f (range_with_len j m))
any-join f a zero m k j e d =
    let same : k ≡ m = omega (arith, e) in
    let start : a ≡ j = omega (arith, d) in
    ap₂ (λ (b c : ℕ). list_any f (range_with_len b c)) start same
any-join f a (suc n) m k j e d =
    let more : k ≡ suc (n + m) = omega (arith, e) in
    ap (λ (c : ℕ). list_any f (range_with_len a c)) more
    ∙ ap (λ (b : Bool). f a || b) (any-join f (a + 1) n m (n + m) j refl (omega (arith, d)))
    ∙ sym (or_assoc (f a) (list_any f (range_with_len (a + 1) n)) (list_any f (range_with_len j m)))

none_within : (set : List Bool) (x steps : ℕ) → SIDE_LIMIT ≤ x →
    list_any (is_within set) (range_with_len x steps) ≡ false
none_within set x steps far =
    any_none (is_within set) x steps
    (λ k low high. let past : SIDE_LIMIT ≤ k = omega (arith, far, low) in ap (λ (b : Bool). b && column_at set k)
    (le-ltb k SIDE_LIMIT past))

pub reach-more : (reach behind more : List Bool) (steps : ℕ) → behind ≡ columns_behind reach steps →
    more ≡ either_columns reach behind →
    (set : List Bool) → IsReach set reach steps → IsReach set more (steps + steps)
reach-more reach behind more steps b e set is =
    record {
      at = λ x. elim (cases_lt x SIDE_LIMIT) [
        | inl low ↦
            ap (λ (cs : List Bool). column_at cs x) e
            ∙ column_at-where (λ y. column_at reach y || column_at behind y) x low
            ∙ ap₂ (λ (s t : Bool). s || t) (is.at x)
            (ap (λ (cs : List Bool). column_at cs x) b ∙ column_at-where (λ y. column_at reach (y + steps)) x low
            ∙ is.at (x + steps))
            ∙ sym (any-join (is_within set) x steps steps (steps + steps) (x + steps) refl refl)
        | inr far ↦
            ap (λ (cs : List Bool). column_at cs x) e
            ∙ column_at-beyond (λ y. column_at reach y || column_at behind y) x far
            ∙ sym (none_within set x (steps + steps) far)
      ];
    }

pub reach-far : (set reach : List Bool) (steps : ℕ) → SIDE_LIMIT ≤ steps → IsReach set reach steps →
    IsReach set reach SIDE_LIMIT
reach-far set reach steps far is =
    record {
      at = λ x.
          is.at x
          ∙ any-join (is_within set) x SIDE_LIMIT (steps - SIDE_LIMIT) steps (x + SIDE_LIMIT) (omega (arith, far)) refl
          ∙ ap (λ (b : Bool). list_any (is_within set) (range_with_len x SIDE_LIMIT) || b)
          (none_within set (x + SIDE_LIMIT) (steps - SIDE_LIMIT) (omega arith))
          ∙ or-false (list_any (is_within set) (range_with_len x SIDE_LIMIT));
    }

once : (a : Bool) → (a && a) ≡ ((true && a) || false)
once true = refl
once false = refl

pub reach-init : (set one : List Bool) → one ≡ both_columns set set → IsReach set one 1
reach-init set one e =
    record {
      at = λ x. elim (cases_lt x SIDE_LIMIT) [
        | inl low ↦
            ap (λ (cs : List Bool). column_at cs x) e
            ∙ column_at-where (λ y. column_at set y && column_at set y) x low
            ∙ once (column_at set x)
            ∙ ap (λ (t : Bool). (t && column_at set x) || false) (sym (lt-ltb x SIDE_LIMIT low))
        | inr far ↦
            ap (λ (cs : List Bool). column_at cs x) e
            ∙ column_at-beyond (λ y. column_at set y && column_at set y) x far
            ∙ sym (none_within set x 1 far)
      ];
    }

-- and to the right ----------------------------------------------------------------------------------------------------

-- pairs ---------------------------------------------------------------------------------------------------------------

reached : (set : List Bool) (from : ℕ) →
    list_any (is_within set) (range_with_len from SIDE_LIMIT) ≡ list_any (λ o. nat_le from o && column_at set o) all
reached set from =
    same_tests _ _
    (λ e.
    let found = any-found (is_within set) from SIDE_LIMIT e in
    let near : from ≤ found.number = found.near in
    let both = and_parts (nat_lt found.number SIDE_LIMIT) (column_at set found.number) found.is in
    let low : found.number < SIDE_LIMIT = let t : nat_lt found.number SIDE_LIMIT ≡ true = both.0 in grind
    (arith, nat_tests, t) in
    let yes : nat_le from found.number ≡ true = grind (arith, nat_tests, near) in
    any-here (λ o. nat_le from o && column_at set o) 0 SIDE_LIMIT found.number (omega arith) (omega (arith, low))
    (ap₂ (λ (s t : Bool). s && t) yes both.1))
    (λ e.
    let found = any-found (λ o. nat_le from o && column_at set o) 0 SIDE_LIMIT e in
    let far : found.number < 0 + SIDE_LIMIT = found.far in
    let low : found.number < SIDE_LIMIT = omega (arith, far) in
    let both = and_parts (nat_le from found.number) (column_at set found.number) found.is in
    let near : from ≤ found.number = let t : nat_le from found.number ≡ true = both.0 in grind (arith, nat_tests, t) in
    any-here (is_within set) from SIDE_LIMIT found.number near (omega (arith, low, near)) (ap₂ (λ
    (s t : Bool). s && t) (lt-ltb found.number SIDE_LIMIT low) both.1))

pub paired-leading : (size : ℕ) (fronts backs reach behind pairs : List Bool) → IsReach backs reach SIDE_LIMIT →
    behind ≡ columns_behind reach size → pairs ≡ both_columns fronts behind →
    AreWhere (is_paired true size fronts backs) pairs
paired-leading size fronts backs reach behind pairs is b e =
    record {
      at = λ x low.
          ap (λ (cs : List Bool). column_at cs x) e
          ∙ column_at-where (λ y. column_at fronts y && column_at behind y) x low
          ∙ ap (λ (t : Bool). column_at fronts x && t)
          (ap (λ (cs : List Bool). column_at cs x) b ∙ column_at-where (λ y. column_at reach (y + size)) x low
          ∙ is.at (x + size) ∙ reached backs (x + size));
    }

-- none of a set lies so far to the left, where its first column doesn't
none_behind : (set : List Bool) (size x first : ℕ) (others : List ℕ) → set_columns set ≡ first ∷ others →
    x < first + size → list_any (λ o. nat_le (o + size) x && column_at set o) all ≡ false
none_behind set size x first others is short =
    any_none (λ o. nat_le (o + size) x && column_at set o) 0 SIDE_LIMIT
    (λ o near far. not_yet o (nat_le (o + size) x) refl) where
      not_yet : (o : ℕ) (b : Bool) → nat_le (o + size) x ≡ b → (b && column_at set o) ≡ false
      not_yet o true t =
          let within : o + size ≤ x = grind (arith, nat_tests, t) in
          first_least set first o others is (omega (arith, within, short))
      not_yet o false t = refl

some_behind : (set : List Bool) (size x first : ℕ) (others : List ℕ) → set_columns set ≡ first ∷ others →
    first + size ≤ x → list_any (λ o. nat_le (o + size) x && column_at set o) all ≡ true
some_behind set size x first others is far =
    let least = first_in set first others is in
    any-here (λ o. nat_le (o + size) x && column_at set o) 0 SIDE_LIMIT first (omega arith) (omega (arith, least.1))
    (ap₂ (λ (s t : Bool). s && t) (le_true (first + size) x far) least.0)

behind_by : (set : List Bool) (size x first : ℕ) (others : List ℕ) → set_columns set ≡ first ∷ others →
    not (nat_lt x (first + size)) ≡ list_any (λ o. nat_le (o + size) x && column_at set o) all
behind_by set size x first others is = elim (cases_lt x (first + size)) [
  | inl short ↦
      ap not (lt-ltb x (first + size) short) ∙ sym (none_behind set size x first others is short)
  | inr far ↦ ap not (le-ltb x (first + size) far) ∙ sym (some_behind set size x first others is far)
]

pub paired-none : (size : ℕ) (fronts backs pairs : List Bool) → set_columns fronts ≡ [] → pairs ≡ no_columns →
    AreWhere (is_paired false size fronts backs) pairs
paired-none size fronts backs pairs none e =
    record {
      at = λ x low.
          none_has pairs x e
          ∙ sym (ap (λ (t : Bool). column_at backs x && t)
          (any_none (λ o. nat_le (o + size) x && column_at fronts o) 0 SIDE_LIMIT
          (λ o near far. ap (λ (b : Bool). nat_le (o + size) x && b) (none_in fronts o none (omega (arith, far)))
          ∙ and-false (nat_le (o + size) x)))
          ∙ and-false (column_at backs x));
    }

pub paired-following : (size : ℕ) (fronts backs pairs : List Bool) (first : ℕ) (others : List ℕ) →
    set_columns fronts ≡ first ∷ others → pairs ≡ columns_without backs (columns_below (first + size)) →
    AreWhere (is_paired false size fronts backs) pairs
paired-following size fronts backs pairs first others is e =
    record {
      at = λ x low.
          ap (λ (cs : List Bool). column_at cs x) e
          ∙ column_at-where (λ y. column_at backs y && not (column_at (columns_below (first + size)) y)) x low
          ∙ ap (λ (t : Bool). column_at backs x && not t) (column_at-where (λ y. nat_lt y (first + size)) x low)
          ∙ ap (λ (t : Bool). column_at backs x && t) (behind_by fronts size x first others is);
    }

-- columns of a row that are kept --------------------------------------------------------------------------------------

kept_by : (columns : List Bool) (x : ℕ) (empty : Bool) → x < SIDE_LIMIT → (empty ≡ true → set_columns columns ≡ []) →
    (not empty && column_at columns x) ≡ column_at columns x
kept_by columns x true low none = sym (none_in columns x (none refl) low)
kept_by columns x false low none = refl

some_by : (rows : List Bool) (old : List (List Bool)) (row other : ℕ) (columns : List Bool) (empty : Bool) →
    row < SIDE_LIMIT → row < length old →
    (empty ≡ false → 0 < length (set_columns columns)) →
    (column_at rows other ≡ true → 0 < length (set_columns (slice_index_or old other []))) →
    column_at (with_column rows row (not empty)) other ≡ true →
    0 < length (set_columns (slice_index_or (slice_set old row columns) other []))
some_by rows old row other columns empty low room some before is = elim (cases_eq other row) [
  | inl same ↦
      let yes : not empty ≡ true = sym (with_here rows row (not empty) low) ∙ ap (column_at (with_column rows row
      (not empty))) (sym same) ∙ is in
      let read : slice_index_or (slice_set old row columns) other [] ≡ columns =
      ap (λ (k : ℕ). slice_index_or (slice_set old row columns) k []) same ∙ get_or-set_same old row columns [] room in
      rw read (some (not-true empty yes))
  | inr apart ↦ elim (cases_lt other SIDE_LIMIT) [
    | inl near ↦ rw (get_or-set_other old row other columns [] apart) (before (sym (with_other rows row other
        (not empty) near apart) ∙ is))
    | inr far ↦ let clash : false ≡ true = sym (column_at-beyond (λ y. cond (nat_eq y row) (not empty)
        (column_at rows y)) other far) ∙ is in absurd (cc)
  ]
]

pub row-kept : (rows : List Bool) (old : List (List Bool)) (row : ℕ) (columns more : List Bool) (new : List
    (List Bool)) (empty : Bool) →
    row < SIDE_LIMIT → SIDE_LIMIT ≤ length old → (empty ≡ true → set_columns columns ≡ []) → (empty ≡ false →
    0 < length (set_columns columns)) →
    more ≡ with_column rows row (not empty) → new ≡ slice_set old row columns → IsRowKept rows old row columns more new
row-kept rows old row columns more new empty low long none some m n =
    let room : row < length old = omega (arith, low, long) in
    record {
      here = λ x near.
          ap₂ (λ (rs : List Bool) (ss : List (List Bool)). is_kept rs ss row x) m n
          ∙ ap₂ (λ (b : Bool) (cs : List Bool). b && column_at cs x) (with_here rows row (not empty) low)
          (get_or-set_same old row columns [] room)
          ∙ kept_by columns x empty near none;
      others = λ other x near apart.
          ap₂ (λ (rs : List Bool) (ss : List (List Bool)). is_kept rs ss other x) m n
          ∙ ap₂ (λ (b : Bool) (cs : List Bool). b && column_at cs x) (with_other rows row other
          (not empty) near apart) (get_or-set_other old row other columns [] apart);
      kept = λ height high kept. record {
        below = with_below rows more row height (not empty) m high kept.below;
        some = λ other is.
            let there : column_at (with_column rows row (not empty)) other ≡ true = sym (ap (λ
            (cs : List Bool). column_at cs other) m) ∙ is in
            rw n (some_by rows old row other columns empty low room some (kept.some other) there);
      };
    }

-- columns in which a part begins that goes down -----------------------------------------------------------------------

pub begun-below : (g : Grid) (table : Option (List ℕ)) (part : List CompiledCell) (row : ℕ) (none : List Bool) →
    0 < length part →
    g.height ≤ row → none ≡ no_columns → AreWhere (begins_down g table part row) none
begun-below g table part row none some far e =
    record { at = λ x low. none_has none x e ∙ sym (below_edge g table part x row some far) }
