-- Rows that are changed by what differs.
use Rattle.std.proofs.Common.{◌≡◌, ◌≢◌, ◌∙◌, ℕ, ◌+◌, ◌*◌, ◌-◌, ◌/◌, ◌%◌, ◌<◌, ◌≤◌, inl, inr, Bool, true, false, not, List, []}
use Rattle.std.proofs.Common.{◌∷◌, ◌++◌, length, get_or, drop, refl, sym, ap, subst, arith}
use Rattle.std.specs.Prelude.{if◌then◌else◌, nat_le, slice_set}
use Rattle.std.specs.List.{list_any}
use Rattle.std.proofs.Math.Nat.{mul-le-mul_left}
use Rattle.std.proofs.lemmas.Bool.{cases_eq, cases_lt, le-ltb, lt-ltb, or_parts}
use Rattle.std.proofs.lemmas.Bool.Decides.{nat_tests}
use Rattle.std.proofs.lemmas.Nat.{div_below, div-add-mod', mod_below}
use Rattle.std.proofs.lemmas.List.{at_drop_all, at_drop_more, get_or_default, get_or-set_other, get_or-set_same}
use Rattle.std.proofs.lemmas.List.{length-set, same_lists, set_past}
use Rattle.ps_board.specs.ColumnSets.{column_at, no_columns, unlike_columns}
use Rattle.ps_board.proofs.ColumnLaws.{columns-agree}
use Rattle.ps_rows.specs.Planes.{AreEmptyFrom, IsSet, row_of}
use Rattle.ps_rows.specs.RowDifferences.{Difference, Lead, LeadBothWays, row_changed, rows_changed}
use Rattle.ps_rows.specs.Sameness.{DifferOnlyOnRows}
use Rattle.ps_rows.proofs.Sets.{none_at, same_set, set_where, unlike_at}

-- sets ----------------------------------------------------------------------------------------------------------------

-- what is in one of two sets alone makes of each the other
again : (p q : Bool) → (if p then not (if p then not q else q) else (if p then not q else q)) ≡ q
again true true = refl
again true false = refl
again false true = refl
again false false = refl

other_way : (p q : Bool) → (if q then not (if p then not q else q) else (if p then not q else q)) ≡ p
other_way true true = refl
other_way true false = refl
other_way false true = refl
other_way false false = refl

pub unlike_set : (a b : List Bool) → IsSet (unlike_columns a b)
unlike_set a b = set_where (λ x. if column_at a x then not (column_at b x) else column_at b x)

pub unlike_forth : (a b : List Bool) → IsSet b → unlike_columns a (unlike_columns a b) ≡ b
unlike_forth a b is =
    same_set (unlike_columns a (unlike_columns a b)) b (unlike_set a (unlike_columns a b)) is
    (λ x low.
    unlike_at a (unlike_columns a b) x low
    ∙ ap (λ (u : Bool). if column_at a x then not u else u) (unlike_at a b x low)
    ∙ again (column_at a x) (column_at b x))

never : (p : Bool) → (if p then not p else p) ≡ false
never true = refl
never false = refl

-- two rows that are the same
pub unlike_same : (a b : List Bool) → a ≡ b → unlike_columns a b ≡ no_columns
unlike_same a b same =
    ap (unlike_columns a) (sym same)
    ∙ columns-agree (λ x. if column_at a x then not (column_at a x) else column_at a x) (λ x. false)
    (λ x low. never (column_at a x))

pub unlike_back : (a b : List Bool) → IsSet a → unlike_columns b (unlike_columns a b) ≡ a
unlike_back a b is =
    same_set (unlike_columns b (unlike_columns a b)) a (unlike_set b (unlike_columns a b)) is
    (λ x low.
    unlike_at b (unlike_columns a b) x low
    ∙ ap (λ (u : Bool). if column_at b x then not u else u) (unlike_at a b x low)
    ∙ other_way (column_at a x) (column_at b x))

-- one row -------------------------------------------------------------------------------------------------------------

module _ (height : ℕ) (words : List (List Bool)) (difference : Difference) where
  abbrev place : ℕ
  place = difference.plane * height + difference.row

  abbrev changed : List Bool
  changed = unlike_columns (row_of words place) difference.columns

  -- a row that planes of the height have
  pub changed_inside : difference.row < height → row_changed height words difference ≡ slice_set words place changed
  unfolding row_changed
  changed_inside under = ap (λ (b : Bool). if b then slice_set words place changed else words)
      (lt-ltb difference.row height under)

  -- a row beyond the height, or beyond the last plane
  pub changed_below : height ≤ difference.row → row_changed height words difference ≡ words
  unfolding row_changed
  changed_below past = ap (λ (b : Bool). if b then slice_set words place changed else words)
      (le-ltb difference.row height past)

  pub changed_beyond : length words ≤ place → row_changed height words difference ≡ words
  changed_beyond past = elim (cases_lt difference.row height) [
    | inl under ↦ changed_inside under ∙ set_past words place changed past
    | inr below ↦ changed_below below
  ]

  pub length-row_changed : length (row_changed height words difference) ≡ length words
  length-row_changed = elim (cases_lt difference.row height) [
    | inl under ↦ ap (λ (ws : List (List Bool)). length ws) (changed_inside under) ∙ length-set words place changed
    | inr below ↦ ap (λ (ws : List (List Bool)). length ws) (changed_below below)
  ]

  row_there : difference.row < height → place < length words →
      row_of (row_changed height words difference) place ≡ changed
  row_there under within =
      ap (λ (ws : List (List Bool)). row_of ws place) (changed_inside under)
      ∙ get_or-set_same words place changed no_columns within

  row_elsewhere : (other : ℕ) → difference.row < height → other ≢ place →
      row_of (row_changed height words difference) other ≡ row_of words other
  row_elsewhere other under apart =
      ap (λ (ws : List (List Bool)). row_of ws other) (changed_inside under)
      ∙ get_or-set_other words place other changed no_columns apart

-- rows without columns behind the planes that are changed
pub row_rest : (height first : ℕ) (words : List (List Bool)) (difference : Difference) → difference.plane < first →
    AreEmptyFrom (first * height) words → AreEmptyFrom (first * height) (row_changed height words difference)
row_rest height first words difference low none place from = elim (cases_lt difference.row height) [
  | inl under ↦
      let early : height * (difference.plane + 1) ≤ height * first =
      mul-le-mul_left height (let next : difference.plane + 1 ≤ first = omega (arith, low) in next) in
      row_elsewhere height words difference place under (λ e. absurd (omega (arith, e, early, under, from)))
      ∙ none place from
  | inr below ↦
      ap (λ (ws : List (List Bool)). row_of ws place) (changed_below height words difference below) ∙ none place from
]

-- many rows -----------------------------------------------------------------------------------------------------------

pub length-rows_changed : (height : ℕ) (words : List (List Bool)) (differences : List Difference) →
    length (rows_changed height words differences) ≡ length words
unfolding rows_changed
length-rows_changed height words [] = refl
length-rows_changed height words (difference ∷ differences) =
    length-rows_changed height (row_changed height words difference) differences
    ∙ length-row_changed height words difference

pub rows_rest : (height first : ℕ) (words : List (List Bool)) (differences : List Difference) →
    list_any (λ difference. nat_le first difference.plane) differences ≡ false → AreEmptyFrom (first * height) words →
    AreEmptyFrom (first * height) (rows_changed height words differences)
unfolding rows_changed
rows_rest height first words [] few none = none
rows_rest height first words (difference ∷ differences) few none =
    let parts = or_parts (nat_le first difference.plane) (list_any (λ d. nat_le first d.plane) differences) few in
    let low : difference.plane < first = grind (arith, nat_tests, parts.0) in
    rows_rest height first (row_changed height words difference) differences parts.1
    (row_rest height first words difference low none)

-- one more, behind the others
pub changed_push : (height : ℕ) (words : List (List Bool)) (differences : List Difference) (difference : Difference) →
    rows_changed height words (differences ++ difference ∷ []) ≡ row_changed height
    (rows_changed height words differences) difference
unfolding rows_changed
changed_push height words [] difference = refl
changed_push height words (first ∷ differences) difference =
    changed_push height (row_changed height words first) differences difference

-- the loop over them
pub rows_more : (height : ℕ) (words more : List (List Bool)) (differences : List Difference) (k : ℕ)
    (default : Difference) (all : List (List Bool)) → k < length differences →
    more ≡ row_changed height words (get_or differences k default) →
    rows_changed height words (drop k differences) ≡ all → rows_changed height more (drop (k + 1) differences) ≡ all
unfolding rows_changed
rows_more height words more differences k default all h e so =
    let here : rows_changed height words (drop k differences) ≡ rows_changed height words
    (get_or differences k default ∷ drop (k + 1) differences) =
    at_drop_more (rows_changed height words) differences k default h in
    ap (λ (ws : List (List Bool)). rows_changed height ws (drop (k + 1) differences)) e ∙ sym here ∙ so

pub rows_all : (height : ℕ) (words : List (List Bool)) (differences : List Difference) (k : ℕ) (all : List (List Bool))
    → length differences ≤ k →
    rows_changed height words (drop k differences) ≡ all → words ≡ all
unfolding rows_changed
rows_all height words differences k all h so = sym (at_drop_all (rows_changed height words) differences k h) ∙ so

-- what leads to others ------------------------------------------------------------------------------------------------

-- what is said of two lists is said of those that they are
pub read_of : (E : List (List Bool) → List (List Bool) → Type 0) (words others here there : List (List Bool)) →
    words ≡ here → others ≡ there → E words others → E here there
read_of E words others here there is also told =
    let First : List (List Bool) → Type 0 = λ ws. E ws others in
    subst (E here) also (subst First is told)

-- nothing is compared yet
lead_none : (height : ℕ) (words others : List (List Bool)) → Lead height 0 words others []
unfolding rows_changed
lead_none height words others = λ place. let from : 0 ≤ place = omega arith in
    sym (ap (λ (b : Bool). if b then row_of others place else row_of words place) (le-ltb place 0 from))

pub both_none : (height : ℕ) (first second : List (List Bool)) → LeadBothWays height 0 first second []
both_none height first second = record { forth = lead_none height first second; back = lead_none height second first }

-- a row that is the same
lead_same : (height end : ℕ) (words others : List (List Bool)) (differences : List Difference) →
    row_of words end ≡ row_of others end →
    Lead height end words others differences → Lead height (end + 1) words others differences
lead_same height end words others differences same lead = λ place. elim (cases_lt place end) [
  | inl before ↦
      let more : place < end + 1 = omega arith in
      lead place ∙ ap (λ (b : Bool). if b then row_of others place else row_of words place) (lt-ltb place end before
      ∙ sym (lt-ltb place (end + 1) more))
  | inr from ↦
      lead place ∙ ap (λ (b : Bool). if b then row_of others place else row_of words place) (le-ltb place end from)
      ∙ elim (cases_lt place (end + 1)) [
        | inl here ↦
            let e : place ≡ end = omega arith in
            ap (row_of words) e ∙ same ∙ sym (ap (row_of others) e)
            ∙ sym (ap (λ (b : Bool). if b then row_of others place else row_of words place)
            (lt-ltb place (end + 1) here))
        | inr past ↦ sym (ap (λ (b : Bool). if b then row_of others place else row_of words place)
            (le-ltb place (end + 1) past))
      ]
]

pub both_same : (height end : ℕ) (first second : List (List Bool)) (differences : List Difference) →
    row_of first end ≡ row_of second end →
    LeadBothWays height end first second differences → LeadBothWays height (end + 1) first second differences
both_same height end first second differences same both =
    record {
      forth = lead_same height end first second differences same both.forth;
      back = lead_same height end second first differences (sym same) both.back;
    }

-- a row that differs, and is added
lead_more : (height : ℕ) (words others : List (List Bool)) (differences : List Difference) (difference : Difference)
    (end : ℕ) → end ≡ difference.plane * height + difference.row →
    difference.row < height → end < length words →
    unlike_columns (row_of words end) difference.columns ≡ row_of others end →
    Lead height end words others differences → Lead height (end + 1) words others (differences ++ difference ∷ [])
lead_more height words others differences difference end at under within makes lead = λ place.
    let before : List (List Bool) = rows_changed height words differences in
    let long : length before ≡ length words = length-rows_changed height words differences in
    let inside : difference.plane * height + difference.row < length before = omega (arith, at, within, long) in
    ap (λ (ws : List (List Bool)). row_of ws place) (changed_push height words differences difference)
    ∙ elim (cases_eq place end) [
      | inl e ↦
          let here : row_of before end ≡ row_of words end =
          lead end ∙ ap (λ (b : Bool). if b then row_of others end else row_of words end)
          (le-ltb end end (let low : end ≤ end = omega arith in low)) in
          let reached : place < end + 1 = omega arith in
          ap (row_of (row_changed height before difference)) (e ∙ at) ∙ row_there height before difference under inside
          ∙ ap (λ (p : ℕ). unlike_columns (row_of before p) difference.columns) (sym at)
          ∙ ap (λ (word : List Bool). unlike_columns word difference.columns) here
          ∙ makes ∙ sym (ap (row_of others) e)
          ∙ sym (ap (λ (b : Bool). if b then row_of others place else row_of words place)
          (lt-ltb place (end + 1) reached))
      | inr apart ↦
          row_elsewhere height before difference place under (λ e. apart (e ∙ sym at)) ∙ lead place
          ∙ ap (λ (b : Bool). if b then row_of others place else row_of words place)
          (elim (cases_lt place end) [
            | inl early ↦ let more : place < end + 1 = omega arith in lt-ltb place end early
                ∙ sym (lt-ltb place (end + 1) more)
            | inr late ↦ let past : end + 1 ≤ place = omega (arith, late, apart) in le-ltb place end late
                ∙ sym (le-ltb place (end + 1) past)
          ])
    ]

pub both_more : (height : ℕ) (first second : List (List Bool)) (differences : List Difference)
    (difference : Difference) (end : ℕ) → end ≡ difference.plane * height + difference.row →
    difference.row < height → end < length first → length second ≡ length first → IsSet (row_of first end) →
    IsSet (row_of second end) →
    difference.columns ≡ unlike_columns (row_of first end) (row_of second end) →
    LeadBothWays height end first second differences →
    LeadBothWays height (end + 1) first second (differences ++ difference ∷ [])
both_more height first second differences difference end at under within long here there is both =
    let also : end < length second = omega (arith, within, long) in
    record {
      forth =
          lead_more height first second differences difference end at under within
          (ap (unlike_columns (row_of first end)) is
          ∙ unlike_forth (row_of first end) (row_of second end) there) both.forth;
      back =
          lead_more height second first differences difference end at under also
          (ap (unlike_columns (row_of second end)) is
          ∙ unlike_back (row_of first end) (row_of second end) here) both.back;
    }

-- a plane that is the same
lead_plane : (height plane : ℕ) (words others : List (List Bool)) (differences : List Difference) →
    ((row : ℕ) → row < height → row_of words (plane * height + row) ≡ row_of others (plane * height + row)) →
    Lead height (plane * height) words others differences → Lead height ((plane + 1) * height) words others differences
lead_plane height plane words others differences same lead = λ place.
    let start : ℕ = plane * height in
    let end : ℕ = (plane + 1) * height in
    let long : end ≡ start + height = omega arith in
    elim (cases_lt place start) [
      | inl before ↦
          let more : place < end = omega (arith, before, long) in
          lead place ∙ ap (λ (b : Bool). if b then row_of others place else row_of words place)
          (lt-ltb place start before ∙ sym (lt-ltb place end more))
      | inr from ↦
          lead place ∙ ap (λ (b : Bool). if b then row_of others place else row_of words place)
          (le-ltb place start from)
          ∙ elim (cases_lt place end) [
            | inl here ↦
                let row : ℕ = place - start in
                let under : row < height = omega (arith, here, from, long) in
                let e : start + row ≡ place = omega (arith, from) in
                ap (row_of words) (sym e) ∙ same row under ∙ ap (row_of others) e
                ∙ sym (ap (λ (b : Bool). if b then row_of others place else row_of words place) (lt-ltb place end here))
            | inr past ↦ sym (ap (λ (b : Bool).
                if b then row_of others place else row_of words place) (le-ltb place end past))
          ]
    ]

pub both_plane : (height plane : ℕ) (first second : List (List Bool)) (differences : List Difference) →
    DifferOnlyOnRows height plane first second no_columns →
    LeadBothWays height (plane * height) first second differences →
    LeadBothWays height ((plane + 1) * height) first second differences
both_plane height plane first second differences same both =
    record {
      forth = lead_plane height plane first second differences (λ row under. same row under (none_at row)) both.forth;
      back = lead_plane height plane second first differences (λ row under.
          sym (same row under (none_at row))) both.back;
    }

-- all rows up to another one are the same
lead_reach : (height end more : ℕ) (words others : List (List Bool)) (differences : List Difference) → end ≤ more →
    ((place : ℕ) → end ≤ place → place < more → row_of words place ≡ row_of others place) →
    Lead height end words others differences → Lead height more words others differences
lead_reach height end more words others differences farther same lead = λ place. elim (cases_lt place end) [
  | inl before ↦
      let early : place < more = omega (arith, before, farther) in
      lead place ∙ ap (λ (b : Bool). if b then row_of others place else row_of words place)
      (lt-ltb place end before ∙ sym (lt-ltb place more early))
  | inr from ↦
      lead place ∙ ap (λ (b : Bool). if b then row_of others place else row_of words place) (le-ltb place end from)
      ∙ elim (cases_lt place more) [
        | inl here ↦
            same place from here
            ∙ sym (ap (λ (b : Bool). if b then row_of others place else row_of words place) (lt-ltb place more here))
        | inr past ↦ sym (ap (λ (b : Bool). if b then row_of others place else row_of words place)
            (le-ltb place more past))
      ]
]

pub both_reach : (height end more : ℕ) (first second : List (List Bool)) (differences : List Difference) → end ≤ more →
    ((place : ℕ) → end ≤ place → place < more → row_of first place ≡ row_of second place) →
    LeadBothWays height end first second differences → LeadBothWays height more first second differences
both_reach height end more first second differences farther same both =
    record {
      forth = lead_reach height end more first second differences farther same both.forth;
      back = lead_reach height end more second first differences farther
          (λ place from below. sym (same place from below)) both.back;
    }

-- several planes are the same
pub both_planes : (height plane planes : ℕ) (first second : List (List Bool)) (differences : List Difference) →
    0 < height → plane ≤ planes →
    ((p : ℕ) → plane ≤ p → p < planes → DifferOnlyOnRows height p first second no_columns) →
    LeadBothWays height (plane * height) first second differences →
    LeadBothWays height (planes * height) first second differences
both_planes height plane planes first second differences some farther same both =
    let more : height * plane ≤ height * planes = mul-le-mul_left height farther in
    both_reach height (plane * height) (planes * height) first second differences (omega (arith, more))
    (λ place from below.
    let row : ℕ = place % height in
    let p : ℕ = place / height in
    let e : p * height + row ≡ place = div-add-mod' place height in
    let low : plane ≤ p = elim (cases_lt p plane) [
      | inl less ↦
          let under : row < height = mod_below place height some in
          let early : height * (p + 1) ≤ height * plane =
          mul-le-mul_left height (let next : p + 1 ≤ plane = omega (arith, less) in next) in
          absurd (omega (arith, early, under, e, from))
      | inr after ↦ after
    ] in
    ap (row_of first) (sym e)
    ∙ same p low (div_below place height planes some below) row (mod_below place height some) (none_at row)
    ∙ ap (row_of second) e)
    both

-- all rows are compared
lead_all : (height end : ℕ) (words others : List (List Bool)) (differences : List Difference) → length words ≤ end →
    length others ≡ length words →
    Lead height end words others differences → rows_changed height words differences ≡ others
lead_all height end words others differences reached long lead =
    let changed : List (List Bool) = rows_changed height words differences in
    let same : length changed ≡ length words = length-rows_changed height words differences in
    same_lists changed others (same ∙ sym long)
    (λ place d inside.
    let here : place < length others = omega (arith, inside, same, long) in
    let before : place < end = omega (arith, inside, same, reached) in
    get_or_default changed place d no_columns inside ∙ lead place
    ∙ ap (λ (b : Bool). if b then row_of others place else row_of words place) (lt-ltb place end before)
    ∙ sym (get_or_default others place d no_columns here))

pub all_forth : (height end : ℕ) (first second : List (List Bool)) (differences : List Difference) →
    length first ≤ end → length second ≡ length first →
    LeadBothWays height end first second differences → rows_changed height first differences ≡ second
all_forth height end first second differences reached long both =
    lead_all height end first second differences reached long both.forth

pub all_back : (height end : ℕ) (first second : List (List Bool)) (differences : List Difference) →
    length first ≤ end → length second ≡ length first →
    LeadBothWays height end first second differences → rows_changed height second differences ≡ first
all_back height end first second differences reached long both =
    let also : length second ≤ end = omega (arith, reached, long) in
    lead_all height end second first differences also (sym long) both.back
