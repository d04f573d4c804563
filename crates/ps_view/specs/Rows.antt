-- Texts in the rows of a terminal: one that is cut where it doesn't fit into a row, and one that goes on in the next,
-- broken between words.
use Rattle.std.specs.Prelude.{ℕ, zero, suc, ◌+◌, ◌-◌, ◌==◌, nat_lt, nat_le, min, true, false, if◌then◌else◌, List, [], ◌∷◌}
use Rattle.std.specs.Prelude.{◌++◌, length, take, drop, map}
use Rattle.ps_view.specs.HarmlessTexts.{columns_of}

-- the mark that says that there is more: three dots, in one column
abbrev pub more_mark : ℕ
more_mark = 8230

-- how many of the first characters fit into so many columns
abbrev pub fitting : ℕ → List ℕ → ℕ
fitting columns [] = 0
fitting columns (character ∷ others) = elim (nat_le (columns_of character) columns) [
  | true ↦ suc (fitting (columns - columns_of character) others)
  | false ↦ 0
]

-- the characters that a row of so many columns shows of a text: all; or where they don't fit, the first, and a mark
abbrev pub cut : ℕ → List ℕ → List ℕ
cut columns text =
    if fitting columns text == length text then text
    else take (fitting (columns - 1) text) text ++ more_mark ∷ []

-- the characters of a text, with a mark for each that is wider than so many columns
abbrev pub narrowed : ℕ → List ℕ → List ℕ
narrowed columns text = map (λ character. if nat_le (columns_of character) columns then character else more_mark) text

-- how many characters come before the last blank, and that blank; none where there is no blank
abbrev pub through_last_blank : List ℕ → ℕ
through_last_blank [] = 0
through_last_blank (character ∷ others) = let further : ℕ = through_last_blank others in
    if nat_lt 0 further then suc further else (if character == 32 then 1 else 0)

-- where a text that doesn't fit into so many columns is broken: after the last blank that fits or comes next; where there is
-- none, in the middle of a word, after the last character that fits
abbrev pub break_of : ℕ → List ℕ → ℕ
break_of columns text =
    let room : ℕ = fitting columns text in
    let word : ℕ = through_last_blank (take (room + 1) text) in
    if nat_lt 0 word then word else room

-- the row before the break: a blank that doesn't fit isn't shown
abbrev pub row_before_break : ℕ → List ℕ → List ℕ
row_before_break columns text = take (min (fitting columns text) (break_of columns text)) text

-- a text in rows of so many columns, at most so many rows
abbrev pub rows_of_words : ℕ → ℕ → List ℕ → List (List ℕ)
rows_of_words zero columns text = []
rows_of_words (suc most) columns text = elim (fitting columns text == length text) [
  | true ↦ text ∷ []
  | false ↦ row_before_break columns text ∷ rows_of_words most columns (drop (break_of columns text) text)
]

-- a text in as many rows of so many columns as it takes, at least one: each but the last shows a character or more
abbrev pub wrapped : ℕ → List ℕ → List (List ℕ)
wrapped columns text = rows_of_words (suc (length text)) columns text

-- so many rows at most: all; or where there are more, the first, a mark, and the last
abbrev pub shortened : ℕ → List (List ℕ) → List (List ℕ)
shortened most rows =
    if nat_le (length rows) most then rows
    else take (most - 2) rows ++ (more_mark ∷ []) ∷ drop (length rows - 1) rows
