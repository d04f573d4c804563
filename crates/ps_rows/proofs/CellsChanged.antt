-- Planes with one cell changed.
use Rattle.std.proofs.Common.{◌≡◌, ◌≢◌, ℕ, ◌+◌, ◌*◌, ◌/◌, ◌%◌, ◌<◌, inl, inr, Bool, List, length, refl}
use Rattle.std.proofs.lemmas.Nat.{same_from_place, mod_below}
use Rattle.std.proofs.lemmas.List.{get_or-set_same, get_or-set_other, length-set}
use Rattle.std.proofs.lemmas.Bool.{cases_eq}
use Rattle.ps_model.specs.declared.limits.TheConstants.{SIDE_LIMIT}
use Rattle.ps_board.specs.ColumnSets.{no_columns, with_column}
use Rattle.ps_match.proofs.RowWritten.{cell_known}
use Rattle.ps_rows.specs.Planes.{has_cell, row_of, with_cell}
use Rattle.ps_board.proofs.ColumnLaws.{with_here, with_other}

pub length-with_cell : (h : ℕ) (words : List (List Bool)) (cell plane : ℕ) (on : Bool) →
    length (with_cell h words cell plane on) ≡ length words
unfolding with_cell
length-with_cell h words cell plane on = length-set words (plane * h + cell % h)
    (with_column (row_of words (plane * h + cell % h)) (cell / h) on)

-- the cell that was changed
pub has_cell-with_same : (h : ℕ) (words : List (List Bool)) (cell plane : ℕ) (on : Bool) → cell / h < SIDE_LIMIT →
    plane * h + cell % h < length words →
    has_cell h (with_cell h words cell plane on) cell plane ≡ on
unfolding has_cell with_cell
has_cell-with_same h words cell plane on low within =
    rw (get_or-set_same words (plane * h + cell % h) (with_column (row_of words (plane * h + cell % h)) (cell / h) on)
    no_columns within)
    (with_here (row_of words (plane * h + cell % h)) (cell / h) on low)

-- each other cell of each plane
pub has_cell-with_other : (h : ℕ) (words : List (List Bool)) (cell plane : ℕ) (on : Bool) (c p : ℕ) → 0 < h →
    c / h < SIDE_LIMIT → plane * h + cell % h < length words →
    (c ≡ cell → p ≢ plane) → has_cell h (with_cell h words cell plane on) c p ≡ has_cell h words c p
unfolding has_cell with_cell
has_cell-with_other h words cell plane on c p some under within apart =
    let place : ℕ = plane * h + cell % h in
    let word : List Bool = with_column (row_of words place) (cell / h) on in
    elim (cases_eq (p * h + c % h) place) [
      | inl e ↦
          let same = same_from_place p (c % h) plane (cell % h) h (mod_below c h some) (mod_below cell h some) e in
          let columns : c / h ≢ cell / h = λ q. apart (cell_known h c cell same.1 q) same.0 in
          rw (e, get_or-set_same words place word no_columns within)
          (with_other (row_of words place) (cell / h) (c / h) on under columns)
      | inr n ↦ rw (get_or-set_other words place (p * h + c % h) word no_columns n) refl
    ]
