-- The text of a frame goes with what a grid shows.
use Rattle.std.proofs.Common.{◌≡◌, ◌∙◌, ℕ, ◌<◌, inl, inr, Bool, true, false, List, sym}
use Rattle.std.proofs.lemmas.Bool.{cases_Bool}
use Rattle.ps_model.specs.board.Grid.{Grid}
use Rattle.ps_model.specs.names.Names.{Names}
use Rattle.ps_board.specs.ColumnSets.{column_at}
use Rattle.ps_board.specs.Rows.{DifferOnlyOn, HaveSameRow}
use Rattle.ps_screen.specs.declared.frame_texts.FrameText.{FrameText}
use Rattle.ps_screen.specs.declared.frame_texts.FrameText.TheVariants.{Whole, Rows}
use Rattle.ps_screen.specs.FrameTexts.{IsPatched, IsTextOf}
use Rattle.ps_screen.specs.PlainFrames.{row_start}
use Rattle.ps_screen.specs.PlainRows.{IsPlainRow}
use Rattle.ps_screen.proofs.KeptRows.{same_back, same_frame_row}
use Rattle.ps_screen.proofs.PlainRows.{same_plain}

-- a grid and another one, which shows the same outside of some rows ---------------------------------------------------

module _ (names : Names) (rows : List Bool) (g h : Grid) (wide : h.width ≡ g.width) (high : h.height ≡ g.height)
    (only : DifferOnlyOn rows h g) where
  back_outside : (row : ℕ) → row < g.height → column_at rows row ≡ false → HaveSameRow g h row
  back_outside row under off = same_back h g row (sym wide) (sym high) (only row (rw high under) off)

  plain_patched : (text : List ℕ) (row : ℕ) → row < g.height →
      ((column_at rows row ≡ true) → IsPlainRow names g row (row_start g.width row) text) →
      ((column_at rows row ≡ false) → IsPlainRow names h row (row_start g.width row) text) →
      IsPlainRow names g row (row_start g.width row) text
  plain_patched text row under drawn kept = elim (cases_Bool (column_at rows row)) [
    | inl on ↦ drawn on
    | inr off ↦ same_plain names g h row (row_start g.width row) text wide high (back_outside row under off) (kept off)
  ]

  -- a text has these rows as the first one's frame has them, and the others as the second one's: it is that of the
  -- first one's frame
  pub text_patched : (text : FrameText) → IsPatched names rows g h text → IsTextOf names g text
  text_patched (Whole text) patched =
      record {
        long = patched.long;
        each = λ row under. plain_patched text row under (patched.drawn row under) (patched.kept row under);
        end = patched.end;
      }
  text_patched (Rows texts) patched =
      record {
        long = patched.long;
        each = λ row under. elim (cases_Bool (column_at rows row)) [
          | inl on ↦ patched.drawn row under on
          | inr off ↦ patched.kept row under off
              ∙ same_frame_row names g h row wide high (back_outside row under off)
        ];
      }
