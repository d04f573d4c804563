-- The lines of a text are numbered from 1.
use Rattle.std.proofs.Common.{◌≡◌, ℕ, zero, suc, ◌+◌, ◌-◌, ◌<◌, ◌≤◌, List, [], ◌∷◌, length, get_or, sym, ◌∙◌, ap, arith}
use Rattle.std.proofs.lemmas.List.{get_or-map, length-map}
use Rattle.ps_model.specs.declared.texts.Section.{Section}
use Rattle.ps_model.specs.declared.texts.Section.TheVariants.{Prelude}
use Rattle.ps_model.specs.text.Lines.{Line, lines_of, lines_from, mark_length}
use Rattle.ps_model.specs.text.LineNumbers.{line_at, no_line}
use Rattle.ps_text.specs.declared.rows.Row.{Row}
use Rattle.ps_text.specs.Rows.{shown, IsTable}

number_from : (raws : List (List ℕ)) (number start depth : ℕ) (above : Section) (i : ℕ) →
    i < length (lines_from number start depth above raws) →
    (get_or (lines_from number start depth above raws) i no_line).number ≡ number + i
number_from [] number start depth above i l = absurd (omega arith)
number_from (raw ∷ raws) number start depth above zero l = omega arith
number_from (raw ∷ raws) number start depth above (suc i) l = number_from raws (suc number) _ _ _ i (omega arith)
    ∙ omega arith

-- the line of a number has it
pub number_of_line : (text : List ℕ) (line : ℕ) → 1 ≤ line → line ≤ length (lines_of text) →
    (line_at text line).number ≡ line
number_of_line text line o l = number_from _ 1 (mark_length text) 0 Prelude (line - 1) (omega arith) ∙ omega arith

-- as many rows as lines
pub row_count : (text : List ℕ) (rows : List Row) → IsTable text rows → length rows ≡ length (lines_of text)
row_count text rows table = sym (length-map rows (shown text)) ∙ ap length table.told

-- the row of a line tells of it
pub row_of_line : (text : List ℕ) (rows : List Row) (i : ℕ) (row : Row) → IsTable text rows → i < length rows →
    row ≡ get_or rows i row → shown text row ≡ get_or (lines_of text) i no_line
row_of_line text rows i row table h is = ap (shown text) is ∙ sym (get_or-map (shown text) rows i row no_line h)
    ∙ ap (λ (lines : List Line). get_or lines i no_line) table.told
