-- Rows of LEVELS, a line further.
use Rattle.std.proofs.Common.{◌≡◌, ◌∙◌, ◌++◌, ◌≤◌, ℕ, Bool, true, false, Option, Some, None, List, [], ◌∷◌, length, take}
use Rattle.std.proofs.Common.{suc, refl, sym, ap, append_assoc, arith}
use Rattle.std.specs.Prelude.{cond, ◌+◌, ◌&&◌, nat_lt, not, unwrap_or, if◌then◌else◌}
use Rattle.std.specs.List.{flat_map, prefix_len, take_while}
use Rattle.std.proofs.lemmas.Bool.{eq-eqb}
use Rattle.std.proofs.lemmas.Grind.{flat_map-append}
use Rattle.std.proofs.lemmas.List.{append-nil}
use Rattle.ps_model.specs.text.Lines.{Line, is_blank_line, lines_of}
use Rattle.ps_model.specs.text.LineNumbers.{here, line_at, lines_between}
use Rattle.ps_model.specs.session.LevelLines.{entry_at, entries_at, is_message, is_row}
use Rattle.ps_laws.proofs.common.LinesInOrder.{between-end, here-there, line_at-number}
use Rattle.ps_warnings.specs.declared.kinds.Warning.{Warning}
use Rattle.ps_warnings.specs.declared.kinds.WarningKind.TheVariants.{LongRow, ShortRow}
use Rattle.ps_warnings.specs.RowWarnings.{told_below, warned_of_width, warnings_of_row, warnings_of_rows, width_of}
use Rattle.ps_warnings.proofs.EntriesBegun.{entry_by}

-- entries -------------------------------------------------------------------------------------------------------------

-- what comes of the entries from a line on: of the one that begins there, and of those below
split : (below : Bool) (line : Line) (rest : List Line) →
    flat_map warnings_of_rows (entries_at below (line ∷ rest))
    ≡ flat_map warnings_of_rows (entry_at below line rest) ++ flat_map warnings_of_rows (entries_at (is_row line) rest)
split below line rest = flat_map-append warnings_of_rows (entry_at below line rest) (entries_at (is_row line) rest)

none_of_no_row : (message below : Bool) (line : Line) (rest : List Line) →
    flat_map warnings_of_rows (entry_by message false below line rest) ≡ []
none_of_no_row true below line rest = refl
none_of_no_row false below line rest = refl

no_message : (blank message : Bool) → (not blank && not message) ≡ true → message ≡ false
no_message blank false e = refl
no_message true true e = absurd (let h = e in cc)
no_message false true e = absurd (let h = e in cc)

-- from a line on that is no row
without_row : (below : Bool) (line : Line) (rest : List Line) → is_row line ≡ false →
    flat_map warnings_of_rows (entries_at below (line ∷ rest)) ≡ flat_map warnings_of_rows (entries_at false rest)
without_row below line rest e =
    split below line rest
    ∙ ap (λ (row : Bool). flat_map warnings_of_rows (entry_by (is_message line) row below line rest)
    ++ flat_map warnings_of_rows (entries_at row rest)) e
    ∙ ap (λ (told : List Warning). told ++ flat_map warnings_of_rows (entries_at false rest))
    (none_of_no_row (is_message line) below line rest)

-- from a row on
entry_of_row : (below : Bool) (line : Line) (rest : List Line) → is_row line ≡ true →
    flat_map warnings_of_rows (entries_at below (line ∷ rest))
    ≡ flat_map warnings_of_rows (entry_by false true below line rest)
    ++ flat_map warnings_of_rows (entries_at true rest)
entry_of_row below line rest e =
    split below line rest
    ∙ ap (λ (message : Bool). flat_map warnings_of_rows (entry_by message (is_row line) below line rest)
    ++ flat_map warnings_of_rows (entries_at (is_row line) rest))
    (no_message (is_blank_line line) (is_message line) e)
    ∙ ap (λ (row : Bool). flat_map warnings_of_rows (entry_by false row below line rest)
    ++ flat_map warnings_of_rows (entries_at row rest)) e

-- rows ----------------------------------------------------------------------------------------------------------------

first_rows : (line : Line) (rest : List Line) (row : Bool) → is_row line ≡ row →
    take_while is_row (line ∷ rest) ≡ take (cond row (1 + prefix_len is_row rest) 0) (line ∷ rest)
first_rows line rest row e =
    ap (λ (own : Bool). take (cond own (1 + prefix_len is_row rest) 0) (line ∷ rest)) e

rows_on : (line : Line) (rest : List Line) → is_row line ≡ true →
    take_while is_row (line ∷ rest) ≡ line ∷ take_while is_row rest
rows_on line rest e =
    let one : 1 + prefix_len is_row rest ≡ suc (prefix_len is_row rest) = omega arith in
    first_rows line rest true e ∙ ap (λ (n : ℕ). take n (line ∷ rest)) one

-- a line that is no row
no_row : (above : Option ℕ) (line : Line) (rest : List Line) → is_row line ≡ false →
    told_below above (line ∷ rest) ≡ told_below None rest
no_row None line rest e = without_row false line rest e
no_row (Some width) line rest e =
    ap (λ (rows : List Line). flat_map (warnings_of_row width) rows
    ++ flat_map warnings_of_rows (entries_at true (line ∷ rest))) (first_rows line rest false e)
    ∙ without_row true line rest e

-- a row by whether it is as wide as its level
abbrev warned_by : Bool → ℕ → ℕ → ℕ → List Warning
warned_by same width own line =
    if same then [] else record {
      line = line;
      kind = if nat_lt own width then ShortRow else LongRow;
    } ∷ []

same_width : (width line : ℕ) → warned_of_width width width line ≡ []
same_width width line =
    ap (λ (same : Bool). warned_by same width width line) (eq-eqb width width refl)

-- a row
row : (above : Option ℕ) (line : Line) (rest : List Line) → is_row line ≡ true →
    told_below above (line ∷ rest)
    ≡ warnings_of_row (unwrap_or above (width_of line)) line
    ++ told_below (Some (unwrap_or above (width_of line))) rest
row None line rest e =
    entry_of_row false line rest e
    ∙ ap (λ (told : List Warning). told ++ flat_map warnings_of_rows (entries_at true rest))
    (append-nil (flat_map (warnings_of_row (width_of line)) (take_while is_row rest)))
    ∙ sym (ap (λ (told : List Warning). told ++ told_below (Some (width_of line)) rest)
    (same_width (width_of line) line.number))
row (Some width) line rest e =
    ap (λ (rows : List Line). flat_map (warnings_of_row width) rows
    ++ flat_map warnings_of_rows (entries_at true (line ∷ rest))) (rows_on line rest e)
    ∙ ap (λ (told : List Warning). (warnings_of_row width line
    ++ flat_map (warnings_of_row width) (take_while is_row rest)) ++ told) (entry_of_row true line rest e)
    ∙ append_assoc (warnings_of_row width line) (flat_map (warnings_of_row width) (take_while is_row rest))
    (flat_map warnings_of_rows (entries_at true rest))

-- lines of the text ---------------------------------------------------------------------------------------------------

pub no_row_here : (text : List ℕ) (line : ℕ) (above : Option ℕ) (told : List Warning) →
    (line_at text line).is_there ≡ true → is_row (line_at text line) ≡ false → (rest : List Line) →
    told ++ told_below None rest ≡ told ++ told_below above (here text line ++ rest)
no_row_here text line above told there e rest =
    ap (λ (more : List Warning). told ++ more)
    (sym (ap (λ (lines : List Line). told_below above (lines ++ rest)) (here-there text line there)
    ∙ no_row above (line_at text line) rest e))

pub row_here : (text : List ℕ) (line : ℕ) (above : Option ℕ) (own width : ℕ) (before after : List Warning) →
    1 ≤ line → line ≤ length (lines_of text) → (line_at text line).is_there ≡ true →
    is_row (line_at text line) ≡ true → own ≡ width_of (line_at text line) → width ≡ unwrap_or above own →
    after ≡ before ++ warned_of_width width own line → (rest : List Line) →
    after ++ told_below (Some width) rest ≡ before ++ told_below above (here text line ++ rest)
row_here text line above own width before after low high there e o w a rest =
    let x : Line = line_at text line in
    let wide : width ≡ unwrap_or above (width_of x) = w ∙ ap (λ (n : ℕ). unwrap_or above n) o in
    let told : warned_of_width width own line ≡ warnings_of_row (unwrap_or above (width_of x)) x =
    ap (λ (n : ℕ). warned_of_width n own line) wide
    ∙ ap (λ (n : ℕ). warned_of_width (unwrap_or above (width_of x)) n line) o
    ∙ ap (λ (n : ℕ). warned_of_width (unwrap_or above (width_of x)) (width_of x) n)
    (sym (line_at-number text line low high)) in
    ap (λ (xs : List Warning). xs ++ told_below (Some width) rest) a
    ∙ append_assoc before (warned_of_width width own line) (told_below (Some width) rest)
    ∙ ap (λ (xs : List Warning). before ++ xs)
    (ap (λ (xs : List Warning). xs ++ told_below (Some width) rest) told
    ∙ ap (λ (n : ℕ). warnings_of_row (unwrap_or above (width_of x)) x ++ told_below (Some n) rest) wide
    ∙ sym (row above x rest e)
    ∙ sym (ap (λ (lines : List Line). told_below above (lines ++ rest)) (here-there text line there)))

none_below : (above : Option ℕ) → told_below above [] ≡ []
none_below None = refl
none_below (Some width) = refl

-- no line is left
pub all_rows_passed : (text : List ℕ) (line end : ℕ) (above : Option ℕ) (told whole : List Warning) → end ≤ line →
    told ++ told_below above (lines_between text line end) ≡ whole → told ≡ whole
all_rows_passed text line end above told whole past was =
    sym (ap (λ (lines : List Line). told ++ told_below above lines) (between-end text line end past)
    ∙ ap (λ (more : List Warning). told ++ more) (none_below above) ∙ append-nil told)
    ∙ was
