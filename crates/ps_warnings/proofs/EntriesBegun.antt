-- Where the entries of LEVELS begin, a line further.
use Rattle.std.proofs.Common.{◌≡◌, ◌∙◌, ◌++◌, ◌≤◌, ℕ, Bool, true, false, List, [], ◌∷◌, length, map, refl}
use Rattle.std.proofs.Common.{sym, ap, append_assoc}
use Rattle.std.specs.Prelude.{◌&&◌, ◌||◌, not}
use Rattle.std.specs.List.{take_while}
use Rattle.std.proofs.lemmas.List.{map-append}
use Rattle.ps_model.specs.text.Lines.{Line, lines_of}
use Rattle.ps_model.specs.text.LineNumbers.{here, line_at}
use Rattle.ps_model.specs.session.LevelLines.{EntryLines, MessageLine, LevelRows, entry_at, entries_at, is_message, is_row}
use Rattle.ps_laws.proofs.common.LinesInOrder.{here-there, line_at-number}
use Rattle.ps_warnings.specs.LevelStarts.{number_of, numbers_at, begins}
use Rattle.ps_warnings.specs.Numbers.{number_if}

-- an entry by what its line is
abbrev pub entry_by : Bool → Bool → Bool → Line → List Line → List EntryLines
entry_by message row is_below_row line below = elim message as (λ b. List EntryLines) [
  | true ↦ MessageLine line ∷ []
  | false ↦ elim (row && not is_below_row) as (λ b.
      List EntryLines) [ true ↦ LevelRows line (take_while is_row below) ∷ [] | false ↦ [] ]
]

number_by : (message row is_below_row : Bool) (line : Line) (below : List Line) →
    map number_of (entry_by message row is_below_row line below)
    ≡ number_if (message || (row && not is_below_row)) line.number
number_by true row is_below_row line below = refl
number_by false true true line below = refl
number_by false true false line below = refl
number_by false false is_below_row line below = refl

-- a line that is there
pub line_begins : (line : Line) (rest : List Line) (is_below_row : Bool) →
    numbers_at is_below_row (line ∷ rest)
    ≡ number_if (begins is_below_row line) line.number ++ numbers_at (is_row line) rest
line_begins line rest is_below_row =
    map-append number_of (entry_at is_below_row line rest) (entries_at (is_row line) rest)
    ∙ ap (λ (numbers : List ℕ). numbers ++ numbers_at (is_row line) rest)
    (number_by (is_message line) (is_row line) is_below_row line rest)

-- a line of the text that is there
pub text_begins : (text : List ℕ) (line : ℕ) (is_below_row begun is_row_there : Bool) (before after : List ℕ) →
    1 ≤ line → line ≤ length (lines_of text) → (line_at text line).is_there ≡ true →
    begun ≡ begins is_below_row (line_at text line) → is_row_there ≡ is_row (line_at text line) →
    after ≡ before ++ number_if begun line → (rest : List Line) →
    after ++ numbers_at is_row_there rest ≡ before ++ numbers_at is_below_row (here text line ++ rest)
text_begins text line is_below_row begun is_row_there before after low high there b r e rest =
    let x : Line = line_at text line in
    let own : number_if begun line ≡ number_if (begins is_below_row x) x.number =
    ap (λ (t : Bool). number_if t line) b
    ∙ ap (number_if (begins is_below_row x)) (sym (line_at-number text line low high)) in
    ap (λ (xs : List ℕ). xs ++ numbers_at is_row_there rest) e
    ∙ append_assoc before (number_if begun line) (numbers_at is_row_there rest)
    ∙ ap (λ (xs : List ℕ). before ++ xs)
    (ap (λ (xs : List ℕ). xs ++ numbers_at is_row_there rest) own
    ∙ ap (λ (t : Bool). number_if (begins is_below_row x) x.number ++ numbers_at t rest) r
    ∙ sym (line_begins x rest is_below_row)
    ∙ sym (ap (λ (lines : List Line). numbers_at is_below_row (lines ++ rest)) (here-there text line there)))
