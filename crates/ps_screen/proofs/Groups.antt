-- The columns that are drawn together: one of them, and those of a set whose cells are like its own.
use Rattle.std.proofs.Common.{◌≡◌, ◌≢◌, ◌∙◌, ℕ, ◌+◌, ◌*◌, ◌<◌, ◌≤◌, ◌⊎◌, ◌&&◌, inl, inr, not, Bool, true, false, List}
use Rattle.std.proofs.Common.{[], ◌∷◌, length, get_or, refl, sym, ap, arith}
use Rattle.std.specs.Prelude.{nat_eq, if◌then◌else◌}
use Rattle.std.proofs.lemmas.Bool.{and_parts, cases_Bool, cases_eq, cases_lt, eq-eqb, false≢true, ne_eqb}
use Rattle.ps_model.specs.declared.limits.TheConstants.{SIDE_LIMIT}
use Rattle.ps_board.specs.ColumnSets.{column_at, both_columns, columns_without, with_column, set_columns}
use Rattle.ps_board.specs.Rows.{AreAlike}
use Rattle.ps_board.proofs.ColumnLaws.{column_at-beyond, column_at-where}
use Rattle.ps_model.specs.board.Grid.{Grid}
use Rattle.ps_model.specs.names.Names.{Names}
use Rattle.ps_board.proofs.Taken.{was_in}
use Rattle.ps_screen.specs.PlainRows.{AreDrawn, IsOutside, column_bytes}
use Rattle.ps_screen.proofs.KeptRows.{same_character}
use Rattle.ps_screen.proofs.Taken.{not_left}

-- the group of a column
abbrev pub group_of : List Bool → List Bool → ℕ → List Bool
group_of left alike column = with_column (both_columns left alike) column true

-- a column of it is the one, or is left and alike
pub in_group : (left alike : List Bool) (column x : ℕ) → x < SIDE_LIMIT →
    column_at (group_of left alike column) x ≡ true →
    (x ≡ column) ⊎ ((column_at left x ≡ true) × (column_at alike x ≡ true))
in_group left alike column x low has = elim (cases_eq x column) [
  | inl e ↦ inl e
  | inr apart ↦ inr (and_parts (column_at left x) (column_at alike x)
      (sym (column_at-where (λ y. if nat_eq y column then true else column_at (both_columns left alike) y) x low
      ∙ ap (λ (b : Bool). if b then true else column_at (both_columns left alike) x) (ne_eqb x column apart)
      ∙ column_at-where (λ y. column_at left y && column_at alike y) x low) ∙ has))
]

pub has_own : (left alike : List Bool) (column : ℕ) → column < SIDE_LIMIT →
    column_at (group_of left alike column) column ≡ true
has_own left alike column low =
    column_at-where (λ y. if nat_eq y column then true else column_at (both_columns left alike) y) column low
    ∙ ap (λ (b : Bool). if b then true else column_at (both_columns left alike) column) (eq-eqb column column refl)

drawn_by : (left group : Bool) → (left && not group) ≡ false → (left ≡ false) ⊎ (group ≡ true)
drawn_by true true h = inr refl
drawn_by true false h = absurd (false≢true (sym h))
drawn_by false group h = inl refl

-- a column that isn't left after a group is one of it, or wasn't left before
pub gone_or_drawn : (left group : List Bool) (x : ℕ) → x < SIDE_LIMIT →
    column_at (columns_without left group) x ≡ false → (column_at left x ≡ false) ⊎ (column_at group x ≡ true)
gone_or_drawn left group x low none =
    drawn_by (column_at left x) (column_at group x)
    (sym (column_at-where (λ y. column_at left y && not (column_at group y)) x low) ∙ none)

-- a column that is left after a group was left before
pub was_left : (left group : List Bool) (x : ℕ) → x < SIDE_LIMIT → column_at (columns_without left group) x ≡ true →
    column_at left x ≡ true
was_left left group x low has = (and_parts (column_at left x) (not (column_at group x))
    (sym (column_at-where (λ y. column_at left y && not (column_at group y)) x low) ∙ has)).0

-- the group's columns drawn -------------------------------------------------------------------------------------------

-- each column of the group has the bytes of the one
pub group_bytes : (names : Names) (g : Grid) (row column x : ℕ) (left alike : List Bool) → x < g.width →
    x < SIDE_LIMIT → AreAlike alike g row column →
    column_at (group_of left alike column) x ≡ true → column_bytes names g row x ≡ column_bytes names g row column
group_bytes names g row column x left alike under low same has = elim (in_group left alike column x low has) [
  | inl e ↦ ap (column_bytes names g row) e
  | inr both ↦ same_character names g g (x * g.height + row) (column * g.height + row) (same x under both.1)
]

-- no column beyond the last one is in a group
pub none_beyond : (left alike : List Bool) (column width : ℕ) → column < width →
    ((x : ℕ) → x < SIDE_LIMIT → column_at left x ≡ true → x < width) →
    column_at (group_of left alike column) width ≡ false
none_beyond left alike column width under within = elim (cases_lt width SIDE_LIMIT) [
  | inr high ↦ column_at-beyond (λ y. if nat_eq y column then true else column_at (both_columns left alike) y) width
      high
  | inl low ↦ elim (cases_Bool (column_at (group_of left alike column) width)) [
    | inr none ↦ none
    | inl has ↦ elim (in_group left alike column width low has) [
      | inl e ↦ absurd (omega (arith, under, e))
      | inr both ↦ absurd (let past = within width low both.0 in omega (arith, past))
    ]
  ]
]

-- a column of the group is one of the row's
pub group_within : (columns left alike : List Bool) (column width : ℕ) →
    set_columns columns ≡ column ∷ set_columns left → column < width →
    ((x : ℕ) → x < SIDE_LIMIT → column_at columns x ≡ true → x < width) → (x : ℕ) → x < SIDE_LIMIT →
    column_at (group_of left alike column) x ≡ true → x < width
group_within columns left alike column width taken under within x low has =
    elim (in_group left alike column x low has) [
      | inl e ↦ omega (arith, under, e)
      | inr both ↦ within x low (was_in columns left column x taken low both.0)
    ]

-- after a group, all columns are drawn that aren't left
pub record Group (names : Names) (g : Grid) (row column byte : ℕ) (columns left alike : List Bool) (start : ℕ)
    (text drawn : List ℕ) : Type 0 where
  pub narrow : g.width ≤ SIDE_LIMIT
  pub under : column < g.width
  pub taken : set_columns columns ≡ column ∷ set_columns left
  pub within : (x : ℕ) → x < SIDE_LIMIT → column_at columns x ≡ true → x < g.width
  pub same : AreAlike alike g row column
  pub bytes : column_bytes names g row column ≡ byte ∷ []
  pub before : AreDrawn names g row columns start text
  pub long : length drawn ≡ length text
  pub there : (x : ℕ) → x < SIDE_LIMIT → column_at (group_of left alike column) x ≡ true →
      get_or drawn (start + x) 0 ≡ byte
  pub elsewhere : (at : ℕ) → ((x : ℕ) → x < SIDE_LIMIT → column_at (group_of left alike column) x ≡ true →
      at ≢ start + x) → get_or drawn at 0 ≡ get_or text at 0

-- the place of a column that isn't in a set is that of none in it
pub apart_from : (group : List Bool) (start x : ℕ) → column_at group x ≡ false → (y : ℕ) → y < SIDE_LIMIT →
    column_at group y ≡ true → start + x ≢ start + y
apart_from group start x out y low has = λ e.
    let same : x ≡ y = omega (arith, e) in
    false≢true (sym out ∙ ap (column_at group) same ∙ has)

column_drawn : (names : Names) (g : Grid) (row column byte : ℕ) (columns left alike : List Bool) (start : ℕ)
    (text drawn : List ℕ) → Group names g row column byte columns left alike start text drawn →
    (x : ℕ) → x < g.width → x < SIDE_LIMIT → column_at (columns_without left (group_of left alike column)) x ≡ false →
    column_bytes names g row x ≡ get_or drawn (start + x) 0 ∷ []
column_drawn names g row column byte columns left alike start text drawn all x below low none =
    elim (cases_Bool (column_at (group_of left alike column) x)) [
      | inl has ↦ group_bytes names g row column x left alike below low all.same has ∙ all.bytes
          ∙ ap (λ (b : ℕ). b ∷ []) (sym (all.there x low has))
      | inr out ↦ elim (gone_or_drawn left (group_of left alike column) x low none) [
        | inr has ↦ absurd (false≢true (sym out ∙ has))
        | inl gone ↦ elim (not_left columns left column x all.taken low gone) [
          | inl e ↦ absurd (false≢true (sym out ∙ ap (column_at (group_of left alike column)) e
              ∙ has_own left alike column (omega (arith, all.under, all.narrow))))
          | inr was ↦ all.before.each x below was
              ∙ ap (λ (b : ℕ). b ∷ []) (sym (all.elsewhere (start + x)
              (apart_from (group_of left alike column) start x out)))
        ]
      ]
    ]

pub group_drawn : (names : Names) (g : Grid) (row column byte : ℕ) (columns left alike : List Bool) (start : ℕ)
    (text drawn : List ℕ) → Group names g row column byte columns left alike start text drawn →
    AreDrawn names g row (columns_without left (group_of left alike column)) start drawn
group_drawn names g row column byte columns left alike start text drawn all =
    let none = none_beyond left alike column g.width all.under (λ x low has.
    all.within x low (was_in columns left column x all.taken low has)) in
    record {
      long = omega (arith, all.long, all.before.long);
      each = λ x below out. column_drawn names g row column byte columns left alike start text drawn all x below
          (omega (arith, below, all.narrow)) out;
      end = all.elsewhere (start + g.width) (apart_from (group_of left alike column) start g.width none)
          ∙ all.before.end;
    }

-- and no byte has changed outside of the row's columns
pub group_kept : (names : Names) (g : Grid) (row column byte : ℕ) (columns left alike : List Bool) (start : ℕ)
    (text drawn : List ℕ) → Group names g row column byte columns left alike start text drawn →
    (at : ℕ) → IsOutside start g.width at → get_or drawn at 0 ≡ get_or text at 0
group_kept names g row column byte columns left alike start text drawn all at outside = all.elsewhere at (λ x low has.
    let under = group_within columns left alike column g.width all.taken all.under all.within x low has in
    elim outside [
      | inl before ↦ λ e. omega (arith, before, e)
      | inr behind ↦ λ e. omega (arith, behind, e, under)
    ])
