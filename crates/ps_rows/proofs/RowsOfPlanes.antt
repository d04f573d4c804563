-- Rows of planes that are copied, those of a set, and the index behind the change.
use Rattle.std.proofs.Common.{◌≡◌, ◌∙◌, ℕ, ◌+◌, ◌*◌, ◌/◌, ◌%◌, ◌<◌, ◌≤◌, ◌&&◌, inl, inr, Bool, true, false, not, List}
use Rattle.std.proofs.Common.{length, refl, sym, ap, ap₂, subst, arith}
use Rattle.std.specs.Prelude.{[], slice_set}
use Rattle.std.proofs.lemmas.Bool.{cases_Bool, cases_eq, cases_lt, false≢true, lt-ltb, or_parts}
use Rattle.std.proofs.lemmas.List.{get_or-set_other, get_or-set_same}
use Rattle.std.proofs.lemmas.Nat.{mod_below}
use Rattle.std.proofs.Math.Bool.{and-true}
use Rattle.ps_model.specs.declared.limits.TheConstants.{SIDE_LIMIT}
use Rattle.ps_board.specs.ColumnSets.{both_columns, column_at, columns_below, columns_without, either_columns}
use Rattle.ps_board.specs.ColumnSets.{no_columns, set_columns}
use Rattle.ps_board.proofs.ColumnLaws.{below_at, none_in}
use Rattle.ps_rows.specs.PlaneCopies.{AreMarksTaken, AreRowsOf}
use Rattle.ps_rows.specs.Planes.{AreSets, IsSet, row_of}
use Rattle.ps_rows.specs.RowIndex.{AreRowsMarked}
use Rattle.ps_rows.proofs.PlaneCopies.{at_place}
use Rattle.ps_rows.proofs.Sets.{both_at, either_at, without_at}

-- a row that isn't in one of two sets isn't in both
pub not_both : (rows others both : List Bool) (row : ℕ) → row < SIDE_LIMIT → both ≡ both_columns rows others →
    column_at rows row ≡ false → column_at both row ≡ false
not_both rows others both row low is off =
    ap (λ (set : List Bool). column_at set row) is ∙ both_at rows others row low
    ∙ ap (λ (b : Bool). b && column_at others row) off

-- of no rows
pub no_rows_of : (height first end : ℕ) (rows : List Bool) (source before : List (List Bool)) → height ≤ SIDE_LIMIT →
    set_columns rows ≡ [] → AreRowsOf height first end rows source before before
no_rows_of height first end rows source before short none = record {
  below = λ o row under less. refl;
  behind = λ o row under more. refl;
  copied = λ o row under low high on.
      absurd (false≢true (sym (none_in rows row none (omega (arith, under, short))) ∙ on));
  left = λ o row under off. refl;
}

-- rows beyond the height don't matter
pub rows_within : (height first end : ℕ) (rows within : List Bool) (source before after : List (List Bool)) →
    height ≤ SIDE_LIMIT → within ≡ both_columns rows (columns_below height) →
    AreRowsOf height first end within source before after → AreRowsOf height first end rows source before after
rows_within height first end rows within source before after short is are =
    record {
      below = are.below;
      behind = are.behind;
      copied = λ o row under low high on.
          let few : row < SIDE_LIMIT = omega (arith, under, short) in
          let inside : column_at within row ≡ true = ap (λ (set : List Bool). column_at set row) is
          ∙ both_at rows (columns_below height) row few ∙ ap₂ (λ (a b : Bool). a && b) on (below_at height row few
          ∙ lt-ltb row height under) in
          are.copied o row under low high inside;
      left = λ o row under off.
          are.left o row under (not_both rows (columns_below height) within row (omega (arith, under, short)) is off);
    }

-- each row is a set
pub sets_of_rows : (height end : ℕ) (rows : List Bool) (source before after : List (List Bool)) → 0 < height →
    AreRowsOf height 0 end rows source before after → AreSets source → AreSets before → AreSets after
sets_of_rows height end rows source before after some are sources befores = λ i.
    let P : List Bool → Type 0 = λ set. IsSet set in
    let o : ℕ = i / height in
    let row : ℕ = i % height in
    let low : row < height = mod_below i height some in
    subst P (sym (at_place height i after)) (elim (cases_Bool (column_at rows row)) [
      | inl on ↦ elim (cases_lt o end) [
        | inl under ↦ subst P (sym (are.copied o row low (omega arith) under on)) (sources (o * height + row))
        | inr past ↦ subst P (sym (are.behind o row low past)) (befores (o * height + row))
      ]
      | inr off ↦ subst P (sym (are.left o row low off)) (befores (o * height + row))
    ])

-- a row of a copied plane that has no mark then
row_marked : (height end plane row : ℕ) (here there rows mark : List Bool) (source before after : List (List Bool)) →
    row < height → height ≤ SIDE_LIMIT → plane < end →
    mark ≡ either_columns (columns_without there rows) (both_columns here rows) →
    AreRowsOf height 0 end rows source before after →
    (column_at here row ≡ false → row_of source (plane * height + row) ≡ no_columns) →
    (column_at there row ≡ false → row_of before (plane * height + row) ≡ no_columns) →
    column_at mark row ≡ false → row_of after (plane * height + row) ≡ no_columns
row_marked height end plane row here there rows mark source before after under short below is are mine other clear =
    let few : row < SIDE_LIMIT = omega (arith, under, short) in
    let parts = or_parts (column_at (columns_without there rows) row) (column_at (both_columns here rows) row)
    (sym (either_at (columns_without there rows) (both_columns here rows) row few)
    ∙ sym (ap (λ (set : List Bool). column_at set row) is) ∙ clear) in
    elim (cases_Bool (column_at rows row)) [
      | inl on ↦
          let none : column_at here row ≡ false = sym (and-true (column_at here row))
          ∙ ap (λ (b : Bool). column_at here row && b) (sym on) ∙ sym (both_at here rows row few) ∙ parts.1 in
          are.copied plane row under (omega arith) below on ∙ mine none
      | inr off ↦
          let none : column_at there row ≡ false = sym (and-true (column_at there row))
          ∙ ap (λ (b : Bool). column_at there row && not b) (sym off) ∙ sym (without_at there rows row few)
          ∙ parts.0 in
          are.left plane row under off ∙ other none
    ]

-- the index behind the change
pub marked_rows : (count count' height end : ℕ) (rows : List Bool)
    (source before after index index' marks : List (List Bool)) →
    height ≤ SIDE_LIMIT → end ≤ count → AreRowsOf height 0 end rows source before after →
    AreMarksTaken end rows index index' marks → AreRowsMarked count height source index →
    AreRowsMarked count' height before index' → AreRowsMarked count' height after marks
marked_rows count count' height end rows source before after index index' marks short mine are taken sources befores =
    λ o row below under clear. elim (cases_lt o end) [
      | inl early ↦
          row_marked height end o row (row_of index o) (row_of index' o) rows (row_of marks o) source before after under
          short early (taken.taken o early) are (sources o row (omega (arith, early, mine)) under)
          (befores o row below under) clear
      | inr late ↦
          are.behind o row under late
          ∙ befores o row below under (ap (λ (w : List Bool). column_at w row) (sym (taken.behind o late)) ∙ clear)
    ]

-- the marks of no plane so far, and of one more
pub no_marks : (rows : List Bool) (index before : List (List Bool)) → AreMarksTaken 0 rows index before before
no_marks rows index before = record {
  taken = λ plane low. absurd (omega arith);
  behind = λ plane high. refl;
}

pub marks_more : (plane : ℕ) (rows mark was own : List Bool) (index before now after : List (List Bool)) →
    plane < length now → after ≡ slice_set now plane mark →
    mark ≡ either_columns (columns_without was rows) (both_columns own rows) → was ≡ row_of now plane →
    own ≡ row_of index plane → AreMarksTaken plane rows index before now →
    AreMarksTaken (plane + 1) rows index before after
marks_more plane rows mark was own index before now after inside is joined there here so = record {
  taken = λ o low. elim (cases_eq o plane) [
    | inl e ↦
        rw e
        (ap (λ (marks : List (List Bool)). row_of marks plane) is ∙ get_or-set_same now plane mark no_columns inside
        ∙ joined
        ∙ ap₂ (λ (a b : List Bool). either_columns (columns_without a rows) (both_columns b rows))
        (there ∙ so.behind plane (omega arith)) here)
    | inr apart ↦
        ap (λ (marks : List (List Bool)). row_of marks o) is ∙ get_or-set_other now plane o mark no_columns apart
        ∙ so.taken o (omega (arith, low, apart))
  ];
  behind = λ o high.
      ap (λ (marks : List (List Bool)). row_of marks o) is
      ∙ get_or-set_other now plane o mark no_columns (λ e. absurd (omega (arith, e, high)))
      ∙ so.behind o (omega (arith, high));
}
