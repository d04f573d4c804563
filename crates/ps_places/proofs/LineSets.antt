-- The sets of one line written over those that stood there, and sets of lines with one line more.
use Rattle.std.proofs.Common.{◌≡◌, ◌≢◌, ◌∙◌, ℕ, ◌+◌, ◌-◌, ◌*◌, ◌<◌, ◌≤◌, ◌⊎◌, inl, inr, Bool, true, false, List, []}
use Rattle.std.proofs.Common.{◌++◌, length, take, drop, get_or, refl, sym, ap, arith}
use Rattle.std.specs.Prelude.{nat_eq, if◌then◌else◌, slice_index_or}
use borrow.Rule.Slice.PartMut.{put_mid}
use Rattle.std.proofs.Math.Nat.{add-mul, mul-le-mul_right}
use Rattle.std.proofs.lemmas.Bool.{cases_eq, cases_lt}
use Rattle.std.proofs.lemmas.List.{length-take-le, get_or_append_left, get_or-append_right, get_or-take, get_or-drop}
use Rattle.ps_model.specs.declared.limits.TheConstants.{SIDE_LIMIT}
use Rattle.ps_board.specs.ColumnSets.{column_at, no_columns, with_column}
use Rattle.ps_board.proofs.ColumnLaws.{column_at-all, column_at-beyond, with_other}

-- a set of lines with a line more has lines below a number
with_by : (lines : List Bool) (row count x : ℕ) (b : Bool) → row < count →
    ((line : ℕ) → column_at lines line ≡ true → line < count) → column_at (with_column lines row b) x ≡ true →
    x < SIDE_LIMIT → (x ≡ row) ⊎ (x ≢ row) → x < count
with_by lines row count x b within below is low (inl same) = rw same within
with_by lines row count x b within below is low (inr other) = below x (sym (with_other lines row x b low other) ∙ is)

pub with_below : (lines more : List Bool) (row count : ℕ) (b : Bool) → more ≡ with_column lines row b → row < count →
    ((line : ℕ) → column_at lines line ≡ true → line < count) →
    (line : ℕ) → column_at more line ≡ true → line < count
with_below lines more row count b e within below x is =
    let here : column_at (with_column lines row b) x ≡ true = sym (ap (λ (cs : List Bool). column_at cs x) e) ∙ is in
    elim (cases_lt x SIDE_LIMIT) [
      | inl low ↦ with_by lines row count x b within below here low (cases_eq x row)
      | inr far ↦ let clash : false ≡ true = sym (column_at-beyond
          (λ y. if nat_eq y row then b else column_at lines y) x far) ∙ here in absurd (cc)
    ]

pub none_has : (lines : List Bool) (x : ℕ) → lines ≡ no_columns → column_at lines x ≡ false
none_has lines x e = ap (λ (cs : List Bool). column_at cs x) e ∙ column_at-all (λ y. false) x (λ far. refl)

-- the sets of a line
pub line_room : (count row most : ℕ) → row < most → row * count + count ≤ most * count
line_room count row most low =
    let step : (row + 1) * count ≡ row * count + 1 * count = add-mul row 1 count in
    let more : (row + 1) * count ≤ most * count = mul-le-mul_right count
    (let next : row + 1 ≤ most = omega arith in next) in
    omega arith

-- and so does a set of it
pub part_room : (count row number long now : ℕ) → row < SIDE_LIMIT → number < count → SIDE_LIMIT * count ≤ long →
    now ≡ long → row * count + number < now
part_room count row number long now low one room same =
    let line : row * count + count ≤ SIDE_LIMIT * count = line_room count row SIDE_LIMIT low in
    omega arith

kept_by : (starts sets : List (List Bool)) (start k place : ℕ) → length sets ≡ k → start + k ≤ length starts →
    (place < start) ⊎ (start + k ≤ place) →
    slice_index_or (put_mid start k starts sets) place [] ≡ slice_index_or starts place []
kept_by starts sets start k place long room (inl before) =
    let rest : List (List Bool) = drop k (drop start starts) in
    let front : length (take start starts) ≡ start = length-take-le start starts (omega arith) in
    let inside : place < length (take start starts) = rw front before in
    get_or_append_left (take start starts) (sets ++ rest) [] place inside ∙ get_or-take start starts place [] before
kept_by starts sets start k place long room (inr behind) =
    let rest : List (List Bool) = drop k (drop start starts) in
    let front : length (take start starts) ≡ start = length-take-le start starts (omega arith) in
    let past : start ≤ place = omega arith in
    let beyond : length sets ≤ place - start = omega arith in
    let back : start + (k + (place - start - length sets)) ≡ place = omega arith in
    get_or-append_right (take start starts) (sets ++ rest) start place [] front past
    ∙ get_or-append_right sets rest (length sets) (place - start) [] refl beyond
    ∙ get_or-drop k (drop start starts) (place - start - length sets) []
    ∙ get_or-drop start starts (k + (place - start - length sets)) []
    ∙ ap (λ (n : ℕ). get_or starts n []) back

-- a place of another line lies before or behind
pub apart : (count row x i : ℕ) → i < count → x ≢ row →
    (x * count + i < row * count) ⊎ (row * count + count ≤ x * count + i)
apart count row x i low other = elim (cases_lt x row) [
  | inl less ↦ let room : x * count + count ≤ row * count = line_room count x row less in inl (omega arith)
  | inr more ↦ let room : row * count + count ≤ x * count =
      line_room count row x (let next : row < x = omega (arith, more, other) in next) in inr (omega arith)
]

-- a place of another line or another part is another place
pub other_place : (count x k i number : ℕ) → i < count → number < count → (x ≢ k) ⊎ (i ≢ number) →
    x * count + i ≢ k * count + number
other_place count x k i number low within other e = elim (cases_eq x k) [
  | inl same ↦
      let here : i ≡ number = let there : k * count + i ≡ k * count + number = rw (← same) (rw (← same) at e) in
      omega arith in
      elim other [ inl n ↦ n same | inr n ↦ n here ]
  | inr elsewhere ↦ elim (apart count k x i low elsewhere) [
    | inl before ↦ omega arith
    | inr behind ↦ omega arith
  ]
]
