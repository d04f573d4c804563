-- Where a part begins, where one row of the board at most is left by what its cells ask for.
use Rattle.std.proofs.Common.{◌≡◌, ◌∙◌, ℕ, ◌+◌, ◌<◌, ◌≤◌, ◌&&◌, inl, inr, Bool, true, false}
use Rattle.std.proofs.Common.{Option, List, [], refl, sym, ap, arith}
use Rattle.std.proofs.lemmas.Bool.{cases_lt}
use Rattle.ps_laws.proofs.common.Truths.{impossible}
use Rattle.ps_laws.proofs.common.Orders.{less_up}
use Rattle.ps_model.specs.declared.limits.TheConstants.{SIDE_LIMIT}
use Rattle.ps_model.specs.board.Grid.{Grid}
use Rattle.ps_board.specs.ColumnSets.{both_columns, column_at, set_columns}
use Rattle.ps_board.proofs.ColumnLaws.{column_at-beyond, none_in}
use Rattle.ps_program.specs.declared.cells.CompiledCell.{CompiledCell}
use Rattle.ps_program.specs.declared.rows.Axis.{Axis}
use Rattle.ps_places.specs.Candidates.{BeginsOnlyOn}
use Rattle.ps_places.specs.PartStarts.{AreStarts, begins_at, columns_on}
use Rattle.ps_places.specs.RowsFound.{AreRowsBegun, BeginBetween}
use Rattle.ps_places.specs.Starts.{AreWhere}
use Rattle.ps_places.proofs.FoundRows.{not_begun}

-- what is in both of two sets is a column that a set has room for
pub both_within : (columns others both : List Bool) (x : ℕ) → both ≡ both_columns columns others →
    column_at both x ≡ true → x < SIDE_LIMIT
both_within columns others both x is on = elim (cases_lt x SIDE_LIMIT) [
  | inl low ↦ low
  | inr far ↦ impossible (sym (ap (λ (cs : List Bool). column_at cs x) is
      ∙ column_at-beyond (λ y. column_at columns y && column_at others y) x far) ∙ on)
]

module _ (g : Grid) (table : Option (List ℕ)) (axis : Axis) (part : List CompiledCell) (own : List Bool)
    (few : g.height ≤ SIDE_LIMIT) (only : BeginsOnlyOn g table axis part own) where
  -- no row of the board is left
  pub none_begun : (starts : List (List Bool)) (begun : List Bool) → ((row : ℕ) → column_at begun row ≡ false) →
      ((row : ℕ) → row < g.height → column_at own row ≡ false) → AreStarts g table axis part begun starts
  none_begun starts begun off out =
      record {
        each = λ row near. record {
          at = λ x low. ap (λ (b : Bool). b && column_at (columns_on starts row) x) (off row)
              ∙ sym (not_begun g table axis part own row x only near (out row near));
          some = λ on. impossible (sym (off row) ∙ on);
        };
        below = λ row on. impossible (sym (off row) ∙ on);
      }

  told : (starts : List (List Bool)) (begun : List Bool) (row x : ℕ) (on was : Bool) → row < g.height →
      x < SIDE_LIMIT →
      ((r : ℕ) → column_at own r ≡ true → AreWhere (begins_at g table axis part r) (columns_on starts r)) →
      AreRowsBegun own starts begun → column_at begun row ≡ on → column_at own row ≡ was →
      (on && column_at (columns_on starts row) x) ≡ begins_at g table axis part row x
  told starts begun row x true was near low begin are o r = (begin row (are.inside row o)).at x low
  told starts begun row x false false near low begin are o r = sym (not_begun g table axis part own row x only near r)
  told starts begun row x false true near low begin are o r =
      sym (sym ((begin row r).at x low)
      ∙ none_in (columns_on starts row) x (are.none row (less_up row g.height SIDE_LIMIT near few) r o) low)

  -- one row of the board is left
  pub one_begun : (starts : List (List Bool)) (begun : List Bool) (first : ℕ) → first < g.height →
      ((row : ℕ) → column_at own row ≡ true → row ≡ first) →
      BeginBetween g table axis part first (first + 1) starts → AreRowsBegun own starts begun →
      AreStarts g table axis part begun starts
  one_begun starts begun first high one between are =
      let begin : (row : ℕ) → column_at own row ≡ true → AreWhere (begins_at g table axis part row)
      (columns_on starts row) =
      λ row on. let same : row ≡ first = one row on in between row (omega (arith, same)) (omega (arith, same)) in
      record {
        each = λ row near. record {
          at = λ x low. told starts begun row x (column_at begun row) (column_at own row) near low begin are refl refl;
          some = are.some row;
        };
        below = λ row on. let same : row ≡ first = one row (are.inside row on) in omega (arith, same, high);
      }

-- a set without a column has none
pub none_left : (rows : List Bool) → set_columns rows ≡ [] → ((row : ℕ) → column_at rows row ≡ true → row < SIDE_LIMIT) →
    (row : ℕ) → (here : Bool) → column_at rows row ≡ here → here ≡ false
none_left rows none within row true on = impossible (sym (none_in rows row none (within row on)) ∙ on)
none_left rows none within row false on = refl

-- no row before the only one is in a set
pub none_before : (rows : List Bool) (first height : ℕ) → height ≤ first →
    ((row : ℕ) → column_at rows row ≡ true → row ≡ first) → (row : ℕ) → row < height → (here : Bool) →
    column_at rows row ≡ here → here ≡ false
none_before rows first height far one row near true on =
    let same : row ≡ first = one row on in absurd (omega (arith, same, far, near))
none_before rows first height far one row near false on = refl
