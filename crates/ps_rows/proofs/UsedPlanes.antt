-- Planes that may have a column, in sets of `WORD_BITS` planes each.
use Rattle.std.proofs.Common.{◌≡◌, ◌≢◌, ◌∙◌, ℕ, ◌+◌, ◌*◌, ◌/◌, ◌%◌, ◌<◌, ◌≤◌, inl, inr, Bool, true, false, not, List, [], ◌∷◌}
use Rattle.std.proofs.Common.{◌&&◌, ◌||◌, length, get_or, replicate, refl, sym, ap, ap₂, subst, arith}
use Rattle.std.proofs.Math.Bool.{and-true}
use Rattle.std.specs.Prelude.{if◌then◌else◌, slice_set}
use Rattle.std.proofs.lemmas.Bool.{and_parts, cases_Bool, cases_eq, cases_lt, false≢true, le-ltb, ltb-false, or_parts}
use Rattle.std.proofs.lemmas.List.{get_or-replicate, get_or-set_other, get_or-set_same, get_or_past, length-replicate, length-set}
use Rattle.std.proofs.Math.Nat.{div-add-mod, div-mul-le_self}
use Rattle.std.proofs.lemmas.Nat.{le-div, mod_below, same_from_place}
use Rattle.ps_model.specs.declared.limits.TheConstants.{SIDE_LIMIT}
use Rattle.ps_board.specs.ColumnSets.{both_columns, column_at, columns_below, columns_without, either_columns}
use Rattle.ps_board.specs.ColumnSets.{no_columns}
use Rattle.ps_board.specs.ColumnSets.{set_columns, with_column}
use Rattle.ps_board.specs.declared.one_word.TheConstants.{WORD_BITS}
use Rattle.ps_board.proofs.ColumnLaws.{below_at, first_in, none_in, with_here, with_other}
use Rattle.ps_board.proofs.EmptySets.{empty_of}
use Rattle.ps_board.proofs.Taken.{first_least}
use Rattle.ps_rows.specs.PlaneCopies.{AreCopied, AreMarksTaken}
use Rattle.ps_rows.specs.Planes.{row_of}
use Rattle.ps_rows.specs.UsedPlanes.{AreAmongUsed, AreNotUsed, AreUsesNoted, IsNextUsed, is_used, sets_for}
use Rattle.ps_rows.specs.declared.used_planes.TheConstants.{MANY_PLANES}
use Rattle.ps_rows.proofs.PlaneCopies.{planes_within}
use Rattle.ps_rows.proofs.Sets.{both_at, either_at, none_at, without_at}

-- one plane is noted --------------------------------------------------------------------------------------------------

module _ (words : List (List Bool)) (plane : ℕ) (inside : plane / WORD_BITS < length words) where
  abbrev place : ℕ
  place = plane / WORD_BITS

  abbrev bit : ℕ
  bit = plane % WORD_BITS

  abbrev noted : List (List Bool)
  noted = slice_set words place (with_column (row_of words place) bit true)

  low_bit : bit < SIDE_LIMIT
  low_bit = let low : plane % WORD_BITS < WORD_BITS = mod_below plane WORD_BITS (omega arith) in omega (arith, low)

  pub noted_here : is_used noted plane ≡ true
  noted_here =
      ap (λ (w : List Bool). column_at w bit)
      (get_or-set_same words place (with_column (row_of words place) bit true) no_columns inside)
      ∙ with_here (row_of words place) bit true low_bit

  pub noted_kept : (each : ℕ) → is_used noted each ≡ false → is_used words each ≡ false
  noted_kept each off = elim (cases_eq (each / WORD_BITS) place) [
    | inl same ↦ elim (cases_eq (each % WORD_BITS) bit) [
      | inl e ↦
          let here : is_used noted each ≡ true =
          rw (same, e) noted_here in
          absurd (false≢true (sym off ∙ here))
      | inr n ↦
          let few : each % WORD_BITS < WORD_BITS = mod_below each WORD_BITS (omega arith) in
          let now : row_of noted (each / WORD_BITS) ≡ with_column (row_of words place) bit true =
          rw same (get_or-set_same words place (with_column (row_of words place) bit true) no_columns inside) in
          let other = with_other (row_of words place) bit (each % WORD_BITS) true (omega (arith, few)) n in
          ap (λ (k : ℕ). column_at (row_of words k) (each % WORD_BITS)) same
          ∙ sym other ∙ sym (ap (λ (w : List Bool). column_at w (each % WORD_BITS)) now) ∙ off
    ]
    | inr apart ↦
        ap (λ (w : List Bool). column_at w (each % WORD_BITS))
        (sym (get_or-set_other words place (each / WORD_BITS) (with_column (row_of words place) bit true) no_columns
        apart)) ∙ off
  ]

-- behind a change of planes -------------------------------------------------------------------------------------------

-- the marked rows of one plane, which is noted if it has one
pub uses_marked : (count plane : ℕ) (mark : List Bool) (index used used' : List (List Bool)) → plane < length index →
    (is_used used' plane ≡ false → (row : ℕ) → row < SIDE_LIMIT → column_at mark row ≡ false) →
    AreAmongUsed used used' → AreUsesNoted count index used → AreUsesNoted count (slice_set index plane mark) used'
uses_marked count plane mark index used used' inside here kept noted each row below low off =
    elim (cases_eq each plane) [
      | inl e ↦
          ap (λ (w : List Bool). column_at w row)
          (ap (row_of (slice_set index plane mark)) e ∙ get_or-set_same index plane mark no_columns inside)
          ∙ here (ap (is_used used') (sym e) ∙ off) row low
      | inr n ↦
          ap (λ (w : List Bool). column_at w row) (get_or-set_other index plane each mark no_columns n)
          ∙ noted each row below low (kept each off)
    ]

-- a plane that isn't noted has no marked row, and is to be noted for its first one
pub noted_first : (count plane : ℕ) (before : List Bool) (index used used' : List (List Bool)) → plane < count →
    before ≡ row_of index plane → (set_columns before ≡ [] → is_used used' plane ≡ true) → AreAmongUsed used used' →
    AreUsesNoted count index used → is_used used' plane ≡ true
noted_first count plane before index used used' below is tells kept noted = elim (cases_Bool (is_used used' plane)) [
  | inl on ↦ on
  | inr off ↦
      tells (ap set_columns is ∙ empty_of (row_of index plane) (λ y low. noted plane y below low (kept plane off)))
]

-- a row of a plane that is noted, or of one that has no columns in it
pub uses_row : (count plane row : ℕ) (mark : List Bool) (empty : Bool) (index used : List (List Bool)) →
    plane < length index → plane < count → row < SIDE_LIMIT →
    mark ≡ with_column (row_of index plane) row (not empty) → (is_used used plane ≡ false → empty ≡ true) →
    AreUsesNoted count index used → AreUsesNoted count (slice_set index plane mark) used
uses_row count plane row mark empty index used inside below low is blank noted =
    uses_marked count plane mark index used used inside
    (λ off y few. ap (λ (w : List Bool). column_at w y) is ∙ elim (cases_eq y row) [
      | inl e ↦
          ap (column_at (with_column (row_of index plane) row (not empty))) e
          ∙ with_here (row_of index plane) row (not empty) low ∙ ap not (blank off)
      | inr n ↦ with_other (row_of index plane) row y (not empty) few n ∙ noted plane y below few off
    ])
    (λ each off. off) noted

-- a set has no more columns with one taken away
pub less_one : (word : List Bool) (column x : ℕ) → x < SIDE_LIMIT → column_at word x ≡ false →
    column_at (with_column word column false) x ≡ false
less_one word column x low off = elim (cases_eq x column) [
  | inl e ↦
      ap (column_at (with_column word column false)) e
      ∙ with_here word column false (subst (λ (n : ℕ). n < SIDE_LIMIT) e low)
  | inr n ↦ with_other word column x false low n ∙ off
]

-- planes that are copied
pub uses_copied : (count first end : ℕ) (source before after mine theirs : List (List Bool)) →
    AreCopied first end source before after → AreAmongUsed mine theirs → AreUsesNoted count source mine →
    AreUsesNoted count before theirs → AreUsesNoted count after theirs
uses_copied count first end source before after mine theirs changed among noted noted' each row below low off =
    elim (cases_lt each first) [
      | inl less ↦ ap (λ (w : List Bool). column_at w row) (changed.below each less) ∙ noted' each row below low off
      | inr from ↦ elim (cases_lt each end) [
        | inl within ↦
            ap (λ (w : List Bool). column_at w row) (changed.copied each from within)
            ∙ noted each row below low (among each off)
        | inr beyond ↦ ap (λ (w : List Bool). column_at w row) (changed.behind each beyond) ∙ noted' each row below low off
      ]
    ]

-- marks that are taken
taken_at : (rows mine theirs : List Bool) (row : ℕ) → row < SIDE_LIMIT → column_at mine row ≡ false →
    column_at theirs row ≡ false →
    column_at (either_columns (columns_without theirs rows) (both_columns mine rows)) row ≡ false
taken_at rows mine theirs row low here there =
    either_at (columns_without theirs rows) (both_columns mine rows) row low
    ∙ ap₂ (λ (a b : Bool). a || b)
    (without_at theirs rows row low ∙ ap (λ (b : Bool). b && not (column_at rows row)) there)
    (both_at mine rows row low ∙ ap (λ (b : Bool). b && column_at rows row) here)

pub uses_taken : (count end : ℕ) (rows : List Bool) (source before after mine theirs used : List (List Bool)) →
    AreMarksTaken end rows source before after → AreAmongUsed mine used → AreAmongUsed theirs used →
    AreUsesNoted count source mine → AreUsesNoted count before theirs → AreUsesNoted count after used
uses_taken count end rows source before after mine theirs used changed own other noted noted' each row below low off =
    elim (cases_lt each end) [
      | inl within ↦
          ap (λ (w : List Bool). column_at w row) (changed.taken each within)
          ∙ taken_at rows (row_of source each) (row_of before each) row low (noted each row below low (own each off))
          (noted' each row below low (other each off))
      | inr beyond ↦
          ap (λ (w : List Bool). column_at w row) (changed.behind each beyond) ∙ noted' each row below low (other each off)
    ]

-- counts and places ---------------------------------------------------------------------------------------------------

-- two boards of planes with as many rows have as many planes
pub counts_same : (count count' height height' long long' : ℕ) → 0 < height' → long ≡ count * height →
    long' ≡ count' * height' → height ≡ height' → long ≡ long' → count ≡ count'
counts_same count count' height height' long long' some whole whole' high same =
    let E : ℕ → Type 0 = λ h. long ≡ count * h in
    let mine : long ≡ count * height' = subst E high whole in
    let less : count ≤ count' = planes_within height' count count' some (omega (arith, mine, whole', same)) in
    let more : count' ≤ count = planes_within height' count' count some (omega (arith, mine, whole', same)) in
    omega (arith, less, more)

-- a number by the set that has it, and its place there
parted : (n : ℕ) → n / WORD_BITS * WORD_BITS + n % WORD_BITS ≡ n
parted n = let whole : WORD_BITS * (n / WORD_BITS) + n % WORD_BITS ≡ n = div-add-mod n WORD_BITS in
    omega (arith, whole)

-- the set of a plane is one of the sets
sets_many : (count : ℕ) → MANY_PLANES ≤ count → sets_for count ≡ count / WORD_BITS + 1
sets_many count many =
    ap (λ (b : Bool). if b then 0 else count / WORD_BITS + 1) (le-ltb count MANY_PLANES many)

pub place_below : (plane count sets : ℕ) → MANY_PLANES ≤ count → plane < count → sets ≡ sets_for count →
    plane / WORD_BITS < sets
place_below plane count sets many below made =
    let room : sets ≡ count / WORD_BITS + 1 = made ∙ sets_many count many in
    let down : plane / WORD_BITS * WORD_BITS ≤ plane = div-mul-le_self plane WORD_BITS in
    let order : plane / WORD_BITS ≤ count / WORD_BITS =
    le-div (plane / WORD_BITS) count WORD_BITS (omega arith) (omega (arith, down, below)) in
    omega (arith, order, room)

-- the sets have room for so many planes
pub planes_below : (planes count sets : ℕ) → MANY_PLANES ≤ count → planes ≤ count → sets ≡ sets_for count →
    planes ≤ sets * WORD_BITS
planes_below planes count sets many below made =
    let room : sets ≡ count / WORD_BITS + 1 = made ∙ sets_many count many in
    let back : count / WORD_BITS * WORD_BITS + count % WORD_BITS ≡ count = parted count in
    let low : count % WORD_BITS < WORD_BITS = mod_below count WORD_BITS (omega arith) in
    omega (arith, back, low, below, room)

-- nothing is marked in new planes
pub uses_none : (count n : ℕ) (used : List (List Bool)) → AreUsesNoted count (replicate n no_columns) used
uses_none count n used plane row below low off = ap (λ (w : List Bool). column_at w row) (elim (cases_lt plane n) [
  | inl less ↦ get_or-replicate n plane no_columns no_columns less
  | inr high ↦ get_or_past (replicate n no_columns) plane no_columns (rw length-replicate high)
]) ∙ none_at row

-- sets that are joined, up to a place
pub record AreJoinedBelow (end : ℕ) (before others now : List (List Bool)) : Type 0 where
  pub joined : (each : ℕ) → each / WORD_BITS < end → is_used now each ≡ false →
      (is_used before each ≡ false) × (is_used others each ≡ false)
  pub left : (place : ℕ) → end ≤ place → row_of now place ≡ row_of before place
  pub long : length now ≡ length before

pub none_joined : (before others : List (List Bool)) → AreJoinedBelow 0 before others before
none_joined before others =
    record { joined = λ each below off. absurd (omega (arith, below)); left = λ place from. refl; long = refl }

pub joined_more : (end : ℕ) (before others now : List (List Bool)) (word : List Bool) → end < length before →
    word ≡ either_columns (row_of before end) (row_of others end) → AreJoinedBelow end before others now →
    AreJoinedBelow (end + 1) before others (slice_set now end word)
joined_more end before others now word inside made was =
    let low : end < length now = omega (arith, inside, was.long) in
    record {
      joined = λ each below off. elim (cases_eq (each / WORD_BITS) end) [
        | inl e ↦
            let bit : ℕ = each % WORD_BITS in
            let few : bit < SIDE_LIMIT =
            let fewer : each % WORD_BITS < WORD_BITS = mod_below each WORD_BITS (omega arith) in omega (arith, fewer) in
            let here : row_of (slice_set now end word) (each / WORD_BITS) ≡ either_columns (row_of before end) (row_of others end) =
            ap (row_of (slice_set now end word)) e ∙ get_or-set_same now end word no_columns low ∙ made in
            let parts = or_parts (column_at (row_of before end) bit) (column_at (row_of others end) bit)
            (sym (either_at (row_of before end) (row_of others end) bit few)
            ∙ sym (ap (λ (w : List Bool). column_at w bit) here) ∙ off) in (
              ap (λ (k : ℕ). column_at (row_of before k) bit) e ∙ parts.0,
              ap (λ (k : ℕ). column_at (row_of others k) bit) e ∙ parts.1,
            )
        | inr n ↦
            was.joined each (omega (arith, below, n))
            (ap (λ (w : List Bool). column_at w (each % WORD_BITS))
            (sym (get_or-set_other now end (each / WORD_BITS) word no_columns n)) ∙ off)
      ];
      left = λ place from.
          let other : place ≢ end = λ e. absurd (omega (arith, from, e)) in
          get_or-set_other now end place word no_columns other ∙ was.left place (omega (arith, from));
      long = length-set now end word ∙ was.long;
    }

-- all sets, of as many others
pub all_joined : (end : ℕ) (before others now : List (List Bool)) → length before ≤ end →
    length others ≡ length before → AreJoinedBelow end before others now → (each : ℕ) → is_used now each ≡ false →
    (is_used before each ≡ false) × (is_used others each ≡ false)
all_joined end before others now whole same was each off = elim (cases_lt (each / WORD_BITS) end) [
  | inl low ↦ was.joined each low off
  | inr high ↦
      let bit : ℕ = each % WORD_BITS in
      let none : row_of before (each / WORD_BITS) ≡ no_columns =
      get_or_past before (each / WORD_BITS) no_columns (omega (arith, high, whole)) in
      let none' : row_of others (each / WORD_BITS) ≡ no_columns =
      get_or_past others (each / WORD_BITS) no_columns (omega (arith, high, whole, same)) in (
        ap (λ (w : List Bool). column_at w bit) none ∙ none_at bit,
        ap (λ (w : List Bool). column_at w bit) none' ∙ none_at bit,
      )
]

-- the next plane of a set ---------------------------------------------------------------------------------------------

-- a plane behind another one, in the same set
beside : (from plane : ℕ) → from ≤ plane → plane < (from / WORD_BITS + 1) * WORD_BITS →
    (plane / WORD_BITS ≡ from / WORD_BITS) × (from % WORD_BITS ≤ plane % WORD_BITS)
beside from plane low high =
    let mine : from / WORD_BITS * WORD_BITS + from % WORD_BITS ≡ from = parted from in
    let theirs : plane / WORD_BITS * WORD_BITS + plane % WORD_BITS ≡ plane = parted plane in
    let few : plane % WORD_BITS < WORD_BITS = mod_below plane WORD_BITS (omega arith) in
    let less : from % WORD_BITS < WORD_BITS = mod_below from WORD_BITS (omega arith) in
    let same : plane / WORD_BITS ≡ from / WORD_BITS = omega (arith, mine, theirs, few, less, low, high) in
    (same, omega (arith, mine, theirs, same, low))

module _ (words others : List (List Bool)) (from : ℕ) (both left : List Bool)
    (joined : both ≡ either_columns (row_of words (from / WORD_BITS)) (row_of others (from / WORD_BITS)))
    (cut : left ≡ columns_without both (columns_below (from % WORD_BITS))) where
  not_there : (plane : ℕ) → from ≤ plane → plane < (from / WORD_BITS + 1) * WORD_BITS →
      column_at left (plane % WORD_BITS) ≡ false → (is_used words plane ≡ false) × (is_used others plane ≡ false)
  not_there plane low high off =
      let here = beside from plane low high in
      let bit : ℕ = plane % WORD_BITS in
      let fewer : plane % WORD_BITS < WORD_BITS = mod_below plane WORD_BITS (omega arith) in
      let few : bit < SIDE_LIMIT = omega (arith, fewer) in
      let kept : column_at both bit ≡ false =
      sym (and-true (column_at both bit))
      ∙ ap (λ (b : Bool). column_at both bit && not b)
      (sym (below_at (from % WORD_BITS) bit few ∙ le-ltb bit (from % WORD_BITS) here.1))
      ∙ sym (without_at both (columns_below (from % WORD_BITS)) bit few)
      ∙ ap (λ (w : List Bool). column_at w bit) (sym cut) ∙ off in
      let parts = or_parts (column_at (row_of words (from / WORD_BITS)) bit)
      (column_at (row_of others (from / WORD_BITS)) bit)
      (sym (either_at (row_of words (from / WORD_BITS)) (row_of others (from / WORD_BITS)) bit few)
      ∙ ap (λ (w : List Bool). column_at w bit) (sym joined) ∙ kept) in (
        ap (λ (k : ℕ). column_at (row_of words k) bit) here.0 ∙ parts.0,
        ap (λ (k : ℕ). column_at (row_of others k) bit) here.0 ∙ parts.1,
      )

  pub none_beside : set_columns left ≡ [] → AreNotUsed words others from ((from / WORD_BITS + 1) * WORD_BITS)
  none_beside none plane low high =
      let fewer : plane % WORD_BITS < WORD_BITS = mod_below plane WORD_BITS (omega arith) in
      not_there plane low high (none_in left (plane % WORD_BITS) none (omega (arith, fewer)))

  pub next_of : (first : ℕ) (more : List ℕ) → first < WORD_BITS → set_columns left ≡ first ∷ more →
      IsNextUsed words others from (from / WORD_BITS * WORD_BITS + first)
  next_of first more few is =
      let there = first_in left first more is in
      let cutting : Bool = column_at (columns_below (from % WORD_BITS)) first in
      let parts = and_parts (column_at both first) (not cutting)
      (sym (without_at both (columns_below (from % WORD_BITS)) first there.1)
      ∙ ap (λ (w : List Bool). column_at w first) (sym cut) ∙ there.0) in
      let clear : cutting ≡ false = elim (cases_Bool cutting) [
        | inl on ↦ absurd (false≢true (sym (ap not on) ∙ parts.1))
        | inr off ↦ off
      ] in
      let low : from % WORD_BITS ≤ first =
      ltb-false first (from % WORD_BITS) (sym (below_at (from % WORD_BITS) first there.1) ∙ clear) in
      let whole : from / WORD_BITS * WORD_BITS + from % WORD_BITS ≡ from = parted from in (
        omega (arith, low, whole),
        λ plane from-low high.
            let within : plane < (from / WORD_BITS + 1) * WORD_BITS = omega (arith, high, few) in
            let here = beside from plane from-low within in
            let back : plane / WORD_BITS * WORD_BITS + plane % WORD_BITS ≡ plane = parted plane in
            let less : plane % WORD_BITS < first = omega (arith, back, here.0, high) in
            not_there plane from-low within (first_least left first (plane % WORD_BITS) more is less),
      )
