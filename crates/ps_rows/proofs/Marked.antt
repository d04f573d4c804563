-- The index of the rows of planes, behind a change of the planes.
use Rattle.std.proofs.Common.{◌≡◌, ◌≢◌, ◌∙◌, ℕ, ◌+◌, ◌*◌, ◌<◌, ◌≤◌, inl, inr, false, not, List, length, replicate, sym}
use Rattle.std.proofs.Common.{ap, arith, Bool, true, subst, []}
use Rattle.std.specs.Prelude.{nat_eq, slice_set}
use Rattle.std.specs.List.{list_any}
use Rattle.std.proofs.Math.Nat.{mul-le-mul_left}
use Rattle.std.proofs.lemmas.Bool.{cases_eq, cases_lt, false≢true, not-false, or_parts}
use Rattle.std.proofs.lemmas.Nat.{same_from_place}
use Rattle.std.proofs.lemmas.List.{get_or-set_same, get_or-set_other}
use Rattle.ps_rows.specs.RowIndex.{AreRowsMarked}
use Rattle.ps_rows.specs.Showing.{motion_planes, motions_from}
use Rattle.ps_rows.proofs.Moves.{five_false, five_high}
use Rattle.ps_board.proofs.ColumnLaws.{with_here, with_other}
use Rattle.ps_rows.proofs.Sets.{either_at, none_set, set_where}
use Rattle.ps_rows.proofs.Puts.{plane_whole}
use Rattle.ps_rows.proofs.Rests.{blank_word}
use Rattle.ps_board.specs.ColumnSets.{column_at, either_columns, no_columns, set_columns, with_column}
use Rattle.ps_model.specs.declared.limits.TheConstants.{SIDE_LIMIT}
use Rattle.ps_rows.specs.Planes.{AreSets, IsSet, row_of}

-- a plane that stands whole in the words has its word in the index
pub plane_indexed : (count height plane long : ℕ) → 0 < height → long ≡ count * height → (plane + 1) * height ≤ long →
    plane < count
plane_indexed count height plane long some whole enough = elim (cases_lt plane count) [
  | inl below ↦ below
  | inr beyond ↦ let more : height * count ≤ height * plane = mul-le-mul_left height beyond in absurd (omega arith)
]

-- and so has each plane of a board
pub planes_indexed : (table : List ℕ) (layers height long count : ℕ) → 0 < height → long ≡ count * height →
    long ≡ motions_from table layers * height → motions_from table layers ≤ count
planes_indexed table layers height long count some whole shown = elim (cases_lt count (motions_from table layers)) [
  | inl below ↦
      let less : count < count = plane_indexed count height count long some whole
      (plane_whole table layers height long count shown below) in
      omega arith
  | inr enough ↦ enough
]

-- behind a change of one row of a plane each row is a set
pub sets_row : (words : List (List Bool)) (place : ℕ) (word : List Bool) → place < length words → IsSet word →
    AreSets words → AreSets (slice_set words place word)
sets_row words place word within is are = λ i. elim (cases_eq i place) [
  | inl e ↦
      let P : List Bool → Type 0 = λ set. IsSet set in
      let now : row_of (slice_set words place word) i ≡ word = ap (λ (k : ℕ). row_of (slice_set words place word) k) e
      ∙ get_or-set_same words place word no_columns within in
      subst P (sym now) is
  | inr n ↦
      let P : List Bool → Type 0 = λ set. IsSet set in
      subst P (sym (get_or-set_other words place i word no_columns n)) (are i)
]

-- and each row without a mark is empty
pub marked_row : (count height : ℕ) (words index : List (List Bool)) (plane row : ℕ) (word : List Bool) (empty : Bool)
    → height ≤ SIDE_LIMIT → row < height → plane < length index →
    plane * height + row < length words → IsSet word → (empty ≡ true → set_columns word ≡ []) →
    AreRowsMarked count height words index →
    AreRowsMarked count height (slice_set words (plane * height + row) word)
    (slice_set index plane (with_column (row_of index plane) row (not empty)))
marked_row count height words index plane row word empty short under own within is told marked =
    λ o y below inside clear.
    let mark : List Bool = with_column (row_of index plane) row (not empty) in
    let low : row < SIDE_LIMIT = omega (arith, under, short) in
    let y_low : y < SIDE_LIMIT = omega (arith, inside, short) in
    let elsewhere : o * height + y ≢ plane * height + row → column_at (row_of index o) y ≡ false →
    row_of (slice_set words (plane * height + row) word) (o * height + y) ≡ no_columns =
    λ apart unmarked. get_or-set_other words (plane * height + row) (o * height + y) word no_columns apart
    ∙ marked o y below inside unmarked in
    elim (cases_eq o plane) [
      | inl e ↦
          let there : column_at mark y ≡ false =
          ap (λ (w : List Bool). column_at w y)
          (sym (ap (λ (p : ℕ). row_of (slice_set index plane mark) p) e
          ∙ get_or-set_same index plane mark no_columns own)) ∙ clear in
          elim (cases_eq y row) [
            | inl f ↦
                let silent : not empty ≡ false = sym (with_here (row_of index plane) row (not empty) low)
                ∙ sym (ap (column_at mark) f) ∙ there in
                let none : word ≡ no_columns = none_set word is (told (not-false empty silent)) in
                rw (e, f) (get_or-set_same words (plane * height + row) word no_columns within ∙ none)
            | inr n ↦
                elsewhere (λ same. n (same_from_place o y plane row height inside under same).1)
                (ap (λ (p : ℕ). column_at (row_of index p) y) e
                ∙ sym (with_other (row_of index plane) row y (not empty) y_low n) ∙ there)
          ]
      | inr n ↦
          elsewhere (λ same. n (same_from_place o y plane row height inside under same).0)
          (ap (λ (w : List Bool). column_at w y) (sym (get_or-set_other index plane o mark no_columns n)) ∙ clear)
    ]

-- without anything
pub marked_none : (planes height count : ℕ) (index : List (List Bool)) →
    AreRowsMarked planes height (replicate count no_columns) index
marked_none planes height count index = λ o y below inside clear. blank_word count (o * height + y)

pub sets_none : (count : ℕ) → AreSets (replicate count no_columns)
sets_none count = λ place.
    let P : List Bool → Type 0 = λ set. IsSet set in subst P (sym (blank_word count place)) (set_where (λ x. false))

-- each row of planes that are the same
pub sets_same : (words more : List (List Bool)) → more ≡ words → AreSets words → AreSets more
sets_same words more e are = let P : List (List Bool) → Type 0 = λ ws. AreSets ws in subst P (sym e) are

-- a row that none of five planes has marked
pub five_unmarked : (count height first long : ℕ) (words index : List (List Bool)) (rows : List Bool) → 0 < height →
    height ≤ SIDE_LIMIT → long ≡ count * height → (first + 5) * height ≤ long →
    AreRowsMarked count height words index →
    rows ≡ either_columns (either_columns (either_columns (either_columns (row_of index first)
    (row_of index (first + 1))) (row_of index (first + 2))) (row_of index (first + 3))) (row_of index (first + 4)) →
    (plane row : ℕ) → list_any (nat_eq plane) (motion_planes first) ≡ true → row < height →
    column_at rows row ≡ false → row_of words (plane * height + row) ≡ no_columns
five_unmarked count height first long words index rows some short whole enough marked is plane row listed under none =
    let word : ℕ → List Bool = λ p. row_of index p in
    let two : List Bool = either_columns (word first) (word (first + 1)) in
    let three : List Bool = either_columns two (word (first + 2)) in
    let four : List Bool = either_columns three (word (first + 3)) in
    let low : row < SIDE_LIMIT = omega (arith, under, short) in
    let fourth = or_parts (column_at four row) (column_at (word (first + 4)) row)
    (sym (either_at four (word (first + 4)) row low) ∙ sym (ap (λ (set : List Bool). column_at set row) is) ∙ none) in
    let third = or_parts (column_at three row) (column_at (word (first + 3)) row)
    (sym (either_at three (word (first + 3)) row low) ∙ fourth.0) in
    let second = or_parts (column_at two row) (column_at (word (first + 2)) row)
    (sym (either_at two (word (first + 2)) row low) ∙ third.0) in
    let one = or_parts (column_at (word first) row) (column_at (word (first + 1)) row)
    (sym (either_at (word first) (word (first + 1)) row low) ∙ second.0) in
    let last : (first + 4 + 1) * height ≤ long = omega arith in
    let counted : first + 4 < count = plane_indexed count height (first + 4) long some whole last in
    let high : plane < first + 5 = five_high first plane listed in
    let clear : column_at (word plane) row ≡ false =
    elim (cases_lt plane first) [
      | inl less ↦ absurd (false≢true (sym (five_false first plane (inl less)) ∙ listed))
      | inr from ↦ elim (cases_eq plane first) [
        | inl e ↦ ap (λ (p : ℕ). column_at (word p) row) e ∙ one.0
        | inr n ↦ elim (cases_eq plane (first + 1)) [
          | inl e ↦ ap (λ (p : ℕ). column_at (word p) row) e ∙ one.1
          | inr m ↦ elim (cases_eq plane (first + 2)) [
            | inl e ↦ ap (λ (p : ℕ). column_at (word p) row) e ∙ second.1
            | inr k ↦ elim (cases_eq plane (first + 3)) [
              | inl e ↦ ap (λ (p : ℕ). column_at (word p) row) e ∙ third.1
              | inr j ↦
                  let e : plane ≡ first + 4 = omega (arith, high, from, n, m, k, j) in
                  ap (λ (p : ℕ). column_at (word p) row) e ∙ fourth.1
            ]
          ]
        ]
      ]
    ] in
    marked plane row (omega (arith, high, counted)) under clear
