-- Planes without columns on two boards, that are passed over.
use Rattle.std.proofs.Common.{◌≡◌, ◌∙◌, ℕ, ◌+◌, ◌*◌, ◌/◌, ◌%◌, ◌<◌, ◌≤◌, inl, inr, Bool, true, false, None, List, [], length, refl, sym}
use Rattle.std.proofs.Common.{ap, subst, arith}
use Rattle.std.specs.Prelude.{slice_get}
use Rattle.std.proofs.lemmas.Bool.{cases_lt, or_parts}
use Rattle.std.proofs.lemmas.List.{get_or_past}
use Rattle.std.proofs.lemmas.Option.{none-some, slice_get_cases}
use Rattle.std.proofs.lemmas.Nat.{mod_below}
use Rattle.ps_model.specs.declared.limits.TheConstants.{SIDE_LIMIT}
use Rattle.ps_board.specs.ColumnSets.{column_at, either_columns, no_columns}
use Rattle.ps_rows.specs.BlankPlanes.{AreBlank}
use Rattle.ps_rows.specs.PlaneCopies.{ArePlanesOf, IsRowCopied}
use Rattle.ps_rows.specs.Planes.{has_cell, row_of}
use Rattle.ps_rows.specs.RowIndex.{AreRowsMarked}
use Rattle.ps_rows.specs.Sameness.{DifferOnlyOnRows, HasDifferences}
use Rattle.ps_rows.specs.UsedPlanes.{AreUsesNoted, is_used}
use Rattle.ps_rows.proofs.Sets.{either_at, none_at}

-- what is blank on both boards is the same
pub blank_same : (height first end : ℕ) (here there : List (List Bool)) → AreBlank height first end here →
    AreBlank height first end there → (plane : ℕ) → first ≤ plane → plane < end →
    DifferOnlyOnRows height plane here there no_columns
blank_same height first end here there mine theirs plane low high row under off =
    mine plane row low high under ∙ sym (theirs plane row low high under)

-- planes of which no row is marked
pub blank_unmarked : (count height first end : ℕ) (words index : List (List Bool)) → end ≤ count →
    AreRowsMarked count height words index →
    ((plane row : ℕ) → first ≤ plane → plane < end → row < height → column_at (row_of index plane) row ≡ false) →
    AreBlank height first end words
blank_unmarked count height first end words index counted marked clear plane row low high under =
    marked plane row (omega (arith, high, counted)) under (clear plane row low high under)

-- planes that aren't noted
pub blank_unnoted : (count height first end : ℕ) (words index used : List (List Bool)) → height ≤ SIDE_LIMIT →
    end ≤ count → AreRowsMarked count height words index → AreUsesNoted count index used →
    ((plane : ℕ) → first ≤ plane → plane < end → is_used used plane ≡ false) → AreBlank height first end words
blank_unnoted count height first end words index used few counted marked noted none =
    blank_unmarked count height first end words index counted marked
    (λ plane row low high under.
    noted plane row (omega (arith, high, counted)) (omega (arith, under, few)) (none plane low high))

-- differences of the planes before those
pub differences_over : (height row first end : ℕ) (here there : List (List Bool)) (word : List Bool) → row < height →
    HasDifferences height row first here there word → AreBlank height first end here →
    AreBlank height first end there → HasDifferences height row end here there word
differences_over height row first end here there word under was mine theirs plane x low few off =
    elim (cases_lt plane first) [
      | inl before ↦ was plane x before few off
      | inr behind ↦ ap (λ (w : List Bool). column_at w x)
          (mine plane row behind low under ∙ sym (theirs plane row behind low under))
    ]

-- a blank plane has no cell
pub blank_cell : (height first end cell plane : ℕ) (words : List (List Bool)) → 0 < height → first ≤ plane →
    plane < end → AreBlank height first end words → has_cell height words cell plane ≡ false
unfolding has_cell
blank_cell height first end cell plane words some low high blank =
    ap (λ (w : List Bool). column_at w (cell / height)) (blank plane (cell % height) low high (mod_below cell height some))
    ∙ none_at (cell / height)

-- a row of the planes before those was copied
pub row_over : (height row first end : ℕ) (source before now : List (List Bool)) → row < height → first ≤ end →
    IsRowCopied height first row source before now → AreBlank height first end source → AreBlank height first end now →
    IsRowCopied height end row source before now
row_over height row first end source before now under order was mine theirs = record {
  copied = λ plane low. elim (cases_lt plane first) [
    | inl early ↦ was.copied plane early
    | inr late ↦ theirs plane row late low under ∙ sym (mine plane row late low under)
  ];
  behind = λ plane high. was.behind plane (omega (arith, order, high));
  left = was.left;
}
