-- Plain frames are frames, and stay so where one of their rows is written.
use Rattle.std.proofs.Common.{◌≡◌, ◌≢◌, ◌∙◌, ℕ, zero, suc, ◌+◌, ◌*◌, ◌<◌, ◌≤◌, inl, inr, Bool, List, [], ◌∷◌, ◌++◌}
use Rattle.std.proofs.Common.{length, get_or, take, drop, append_assoc, refl, sym, ap, ap₂, arith}
use Rattle.std.specs.Prelude.{codes, replicate}
use Rattle.std.specs.List.{flat_map, range_with_len}
use Rattle.std.proofs.Math.Seq.{take-add}
use Rattle.std.proofs.Math.ListN.{get_or-append}
use Rattle.std.proofs.lemmas.Bool.{cases_eq, cases_lt}
use Rattle.std.proofs.lemmas.List.{drop-drop, length-append, length-replicate}
use Rattle.std.proofs.lemmas.Nat.{mul-add-lt}
use Rattle.ps_model.specs.board.Grid.{Grid}
use Rattle.ps_model.specs.names.Names.{Names}
use Rattle.ps_model.specs.session.Frames.{frame, frame_row}
use Rattle.ps_model.specs.declared.limits.TheConstants.{SIDE_LIMIT}
use Rattle.ps_board.specs.ColumnSets.{columns_below}
use Rattle.ps_screen.specs.PlainFrames.{IsBlankFrame, IsPlainFrame, row_start}
use Rattle.ps_screen.specs.PlainRows.{AreDrawn, IsOutside, IsPlainRow}
use Rattle.ps_screen.proofs.PlainRows.{at_end, cut_last, none_drawn, plain_part}

-- a row ends before the next ones begin
pub ends_before : (width row other : ℕ) → row < other → row_start width row + width < row_start width other
ends_before width row other below =
    let first : row * (width + 1) + width < (width + 1) * other =
    mul-add-lt row (width + 1) width other below (omega arith) in
    omega (arith, first)

-- the columns and the line feed of one row are outside of the columns of another
pub other_row : (width row other x : ℕ) → other ≢ row → x ≤ width →
    IsOutside (row_start width row) width (row_start width other + x)
other_row width row other x apart under = elim (cases_lt other row) [
  | inl below ↦ inl (let ends = ends_before width other row below in omega (arith, ends, under))
  | inr least ↦ inr (let ends = ends_before width row other (omega (arith, least, apart)) in omega (arith, ends))
]

-- and so is its own line feed
pub own_end : (width row : ℕ) → IsOutside (row_start width row) width (row_start width row + width)
own_end width row = inr (omega arith)

-- and the empty line's
pub last_end : (width height row : ℕ) → row < height → IsOutside (row_start width row) width (row_start width height)
last_end width height row below = inr (let ends = ends_before width row height below in omega (arith, ends))

-- the frame -----------------------------------------------------------------------------------------------------------

-- the rows from one on are the part of the text from its start on
pub rows_part : (names : Names) (g : Grid) (text : List ℕ) →
    ((row : ℕ) → row < g.height → IsPlainRow names g row (row_start g.width row) text) → (a n : ℕ) → a + n ≤ g.height →
    flat_map (frame_row names g) (range_with_len a n) ≡ take (n * (g.width + 1)) (drop (a * (g.width + 1)) text)
rows_part names g text each a zero within = let none : 0 * (g.width + 1) ≡ 0 = omega arith in rw none refl
rows_part names g text each a (suc n) within =
    let long : suc n * (g.width + 1) ≡ (g.width + 1) + n * (g.width + 1) = omega arith in
    let next : a * (g.width + 1) + (g.width + 1) ≡ (a + 1) * (g.width + 1) = omega arith in
    let rest : List ℕ = drop (a * (g.width + 1)) text in
    ap₂ (λ (xs ys : List ℕ). xs ++ ys) (sym (plain_part names g a (a * (g.width + 1)) text
    (each a (omega (arith, within)))))
    (rows_part names g text each (a + 1) n (omega (arith, within))
    ∙ ap (λ (m : ℕ). take (n * (g.width + 1)) (drop m text)) (sym next)
    ∙ ap (take (n * (g.width + 1))) (sym (drop-drop (g.width + 1) (a * (g.width + 1)) text)))
    ∙ sym (take-add (g.width + 1) (n * (g.width + 1)) rest)
    ∙ ap (λ (m : ℕ). take m rest) (sym long)

-- a plain frame's text is the frame
pub plain_frame : (names : Names) (g : Grid) (text : List ℕ) → IsPlainFrame names g text → text ≡ frame names g
plain_frame names g text plain =
    let none : 0 * (g.width + 1) ≡ 0 = omega arith in
    cut_last text (g.height * (g.width + 1)) 10 plain.long plain.end
    ∙ ap (λ (t : List ℕ). t ++ codes "\n")
    (sym (rows_part names g text plain.each 0 g.height (omega arith)
    ∙ ap (λ (m : ℕ). take (g.height * (g.width + 1)) (drop m text)) none))

-- a row of a plain frame, of a board as wide and as high as another
pub row_of : (names : Names) (g h : Grid) (text : List ℕ) → h.width ≡ g.width → h.height ≡ g.height →
    IsPlainFrame names h text → (row : ℕ) → row < g.height →
    IsPlainRow names h row (row_start g.width row) text
row_of names g h text wide high plain row under = rw (← wide) (plain.each row (rw high under))

-- a row written -------------------------------------------------------------------------------------------------------

-- no byte has changed outside of a row's columns
pub record RowWritten (width row : ℕ) (text drawn : List ℕ) : Type 0 where
  pub long : length drawn ≡ length text
  pub elsewhere : (at : ℕ) → IsOutside (row_start width row) width at → get_or drawn at 0 ≡ get_or text at 0

-- the bytes of a row whose start is computed so
pub row_written : (names : Names) (g : Grid) (row start : ℕ) (text drawn : List ℕ) → start ≡ row_start g.width row →
    length drawn ≡ length text →
    ((at : ℕ) → IsOutside start g.width at → get_or drawn at 0 ≡ get_or text at 0) → RowWritten g.width row text drawn
row_written names g row start text drawn is long elsewhere =
    record { long = long; elsewhere = λ at outside. elsewhere at (rw is outside) }

-- then the line feeds stay
pub ends_stay : (width height row : ℕ) (text drawn : List ℕ) → row < height → RowWritten width row text drawn →
    IsBlankFrame width height text → IsBlankFrame width height drawn
ends_stay width height row text drawn under wrote blank =
    record {
      long = wrote.long ∙ blank.long;
      each = λ other below. elim (cases_eq other row) [
        | inl e ↦ wrote.elsewhere (row_start width other + width) (rw e (own_end width row)) ∙ blank.each other below
        | inr apart ↦ wrote.elsewhere (row_start width other + width)
            (other_row width row other width apart (omega arith)) ∙ blank.each other below
      ];
      end = wrote.elsewhere (row_start width height) (last_end width height row under) ∙ blank.end;
    }

-- and the other rows
pub row_stays : (names : Names) (g h : Grid) (row other : ℕ) (text drawn : List ℕ) → h.width ≡ g.width → other ≢ row →
    RowWritten g.width row text drawn →
    IsPlainRow names h other (row_start g.width other) text → IsPlainRow names h other (row_start g.width other) drawn
row_stays names g h row other text drawn wide apart wrote plain =
    record {
      long = omega (arith, wrote.long, plain.long);
      each = λ x under. plain.each x under ∙ ap (λ (b : ℕ).
          b ∷ []) (sym (wrote.elsewhere (row_start g.width other + x)
          (other_row g.width row other x apart (omega (arith, under, wide)))));
      end = wrote.elsewhere (row_start g.width other + h.width)
          (other_row g.width row other h.width apart (omega (arith, wide))) ∙ plain.end;
    }

-- of a row without line feed alone nothing is drawn, where a set has all columns
pub row_undrawn : (names : Names) (g : Grid) (row : ℕ) (columns : List Bool) (text : List ℕ) → g.width ≤ SIDE_LIMIT →
    columns ≡ columns_below g.width → row < g.height →
    IsBlankFrame g.width g.height text → AreDrawn names g row columns (row_start g.width row) text
row_undrawn names g row columns text narrow all under ends =
    let before = ends_before g.width row g.height under in
    none_drawn names g row columns (row_start g.width row) text narrow all (omega (arith, before, ends.long))
    (ends.each row under)

-- one more of the rows from the top
pub next_row : (names : Names) (g : Grid) (row : ℕ) (text drawn : List ℕ) → RowWritten g.width row text drawn →
    IsPlainRow names g row (row_start g.width row) drawn →
    ((other : ℕ) → other < row → IsPlainRow names g other (row_start g.width other) text) → (other : ℕ) →
    other < row + 1 → IsPlainRow names g other (row_start g.width other) drawn
next_row names g row text drawn wrote plain above other low = elim (cases_eq other row) [
  | inl e ↦ rw e plain
  | inr apart ↦ row_stays names g g row other text drawn refl apart wrote (above other (omega (arith, low, apart)))
]

-- a frame of blanks ---------------------------------------------------------------------------------------------------

-- a text of `rows` rows of `width` bytes, which end with line feeds
pub record RowsEnd (width rows : ℕ) (text : List ℕ) : Type 0 where
  pub long : length text ≡ row_start width rows
  pub each : (row : ℕ) → row < rows → get_or text (row_start width row + width) 0 ≡ 10

pub no_rows : (width : ℕ) → RowsEnd width 0 []
no_rows width = record { long = omega arith; each = λ row under. absurd (omega (arith, under)) }

-- a row more
pub row_added : (width rows : ℕ) (text longer : List ℕ) → RowsEnd width rows text →
    longer ≡ text ++ (replicate width 32 ++ codes "\n") → RowsEnd width (rows + 1) longer
row_added width rows text longer all is =
    let blanks : List ℕ = replicate width 32 in
    let last : List ℕ = codes "\n" in
    let few : length blanks ≡ width = length-replicate width 32 in
    let row_long : length (blanks ++ last) ≡ length blanks + length last = length-append blanks last in
    let front : length (text ++ blanks) ≡ length text + length blanks = length-append text blanks in
    let both : length (text ++ (blanks ++ last)) ≡ length text + length (blanks ++ last) =
    length-append text (blanks ++ last) in
    rw is
    record {
      long = omega (arith, both, row_long, few, all.long);
      each = λ row under. elim (cases_lt row rows) [
        | inl below ↦
            let ends = ends_before width row rows below in
            get_or-append text (blanks ++ last) 0 (row_start width row + width) (omega (arith, ends, all.long))
            ∙ all.each row below
        | inr least ↦
            let own : row ≡ rows = omega (arith, least, under) in
            let place : length (text ++ blanks) ≡ row_start width row + width =
            rw own (omega (arith, front, few, all.long)) in
            ap (λ (t : List ℕ). get_or t (row_start width row + width) 0) (sym (append_assoc text blanks last))
            ∙ at_end (text ++ blanks) last (row_start width row + width) place
      ];
    }

-- and the empty line
pub blank_frame : (width height : ℕ) (text longer : List ℕ) → RowsEnd width height text → longer ≡ text ++ codes "\n" →
    IsBlankFrame width height longer
blank_frame width height text longer all is =
    let last : List ℕ = codes "\n" in
    let both : length (text ++ last) ≡ length text + length last = length-append text last in
    rw is
    record {
      long = omega (arith, both, all.long);
      each = λ row under.
          let ends = ends_before width row height under in
          get_or-append text last 0 (row_start width row + width) (omega (arith, ends, all.long)) ∙ all.each row under;
      end = at_end text last (row_start width height) all.long;
    }

-- a plain frame has the line feeds of one, and with them and its rows it is one
pub has_ends : (names : Names) (g : Grid) (text : List ℕ) → IsPlainFrame names g text →
    IsBlankFrame g.width g.height text
has_ends names g text plain = record {
  long = plain.long;
  each = λ row under. (plain.each row under).end;
  end =
      plain.end;
}

pub frame_drawn : (names : Names) (g : Grid) (text : List ℕ) → IsBlankFrame g.width g.height text →
    ((row : ℕ) → row < g.height → IsPlainRow names g row (row_start g.width row) text) → IsPlainFrame names g text
frame_drawn names g text blank each = record { long = blank.long; each = each; end = blank.end }
