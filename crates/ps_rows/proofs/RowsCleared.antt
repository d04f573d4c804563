-- Rows of a plane that were cleared, those of a set.
use Rattle.std.proofs.Common.{◌≡◌, ◌≢◌, ◌∙◌, ℕ, ◌+◌, ◌*◌, ◌<◌, ◌≤◌, Bool, false, List, [], ◌∷◌, length, refl, arith}
use Rattle.std.specs.Prelude.{slice_set}
use Rattle.ps_model.specs.declared.limits.TheConstants.{SIDE_LIMIT}
use Rattle.ps_board.specs.ColumnSets.{both_columns, column_at, columns_below, no_columns, set_columns}
use Rattle.ps_board.proofs.Taken.{AreBelow, ArePassed, below-init, below-more, passed-all, passed-changed, passed-init}
use Rattle.ps_rows.specs.PlaneCopies.{ArePlanesOf}
use Rattle.ps_rows.specs.Planes.{row_of}
use Rattle.ps_rows.proofs.RowCopies.{row_kept, row_written}

-- the rows of a plane that aren't left have no column, and other planes are what they were
pub record AreRowsCleared (height plane : ℕ) (left : List Bool) (before now : List (List Bool)) : Type 0 where
  pub low : AreBelow height left
  pub passed : ArePassed (λ row. row_of now (plane * height + row) ≡ no_columns) height left
  pub others : (other row : ℕ) → row < height → other ≢ plane →
      row_of now (other * height + row) ≡ row_of before (other * height + row)

module _ (height plane : ℕ) (before : List (List Bool)) (short : height ≤ SIDE_LIMIT) where
  pub none_cleared : (marked below left : List Bool) → below ≡ columns_below height →
      left ≡ both_columns marked below → ((row : ℕ) → row < height → column_at marked row ≡ false →
      row_of before (plane * height + row) ≡ no_columns) → AreRowsCleared height plane left before before
  none_cleared marked below left b e blank = record {
    low = below-init marked below left height b e;
    passed = passed-init (λ row. row_of before (plane * height + row) ≡ no_columns) marked below left height short b e
        blank;
    others = λ other row under apart. refl;
  }

  pub row_cleared : (set left : List Bool) (row : ℕ) (word : List Bool) (now after : List (List Bool)) →
      set_columns set ≡ row ∷ set_columns left → row < height → (plane + 1) * height ≤ length now →
      word ≡ no_columns → after ≡ slice_set now (plane * height + row) word →
      AreRowsCleared height plane set before now → AreRowsCleared height plane left before after
  row_cleared set left row word now after is under enough none so was = record {
    low = below-more set left height row is was.low;
    passed = passed-changed (λ y. row_of now (plane * height + y) ≡ no_columns) (λ y.
        row_of after (plane * height + y) ≡ no_columns) set left height row short is
        (row_written height plane row word now after under enough so ∙ none)
        (λ y inside apart clear. row_kept height plane row word plane y now after under inside (λ e. apart) so ∙ clear)
        was.passed;
    others = λ other y inside apart.
        row_kept height plane row word other y now after under inside (λ e. absurd (apart e)) so
        ∙ was.others other y inside apart;
  }

  pub plane_cleared : (left : List Bool) (now : List (List Bool)) → set_columns left ≡ [] →
      AreRowsCleared height plane left before now → ArePlanesOf height plane (plane + 1) [] before now
  plane_cleared left now none was = record {
    below = λ o row under less. was.others o row under (λ e. absurd (omega (arith, less, e)));
    behind = λ o row under more. was.others o row under (λ e. absurd (omega (arith, more, e)));
    copied = λ o row under low high.
        let e : o ≡ plane = omega arith in
        rw e (passed-all (λ y. row_of now (plane * height + y) ≡ no_columns) left height row short none was.passed
        under);
  }
