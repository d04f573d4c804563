-- The shape of a rule: `->` parts its line in a left and a right side. Brackets part a side in rows and what stands
-- outside them. Bars part a row in cells. Brackets that don't pair, or nest, make no shape.
use Rattle.std.specs.Prelude.{Bool, true, false, not, Option, Some, None, List, [], ◌∷◌, ◌++◌, map, fold, drop}
use Rattle.std.specs.Prelude.{slice_index_or}
use Rattle.std.specs.List.{slice_split, list_any, flat_map}
use Rattle.ps_model.specs.text.OptionSteps.{◌>>=◌, only_if, all_there}
use Rattle.ps_model.specs.rules.RuleSymbols.{Symbol, Open, Close, Bar, Arrow, Ellipsis, Plus, Late, Token}

-- `[`
abbrev pub is_open : Symbol → Bool
is_open Open = true
is_open other = false

-- `]`
abbrev pub is_close : Symbol → Bool
is_close Close = true
is_close other = false

-- `|`
abbrev pub is_bar : Symbol → Bool
is_bar Bar = true
is_bar other = false

-- `->`
abbrev pub is_arrow : Symbol → Bool
is_arrow Arrow = true
is_arrow other = false

-- `...`
abbrev pub is_ellipsis : Symbol → Bool
is_ellipsis Ellipsis = true
is_ellipsis other = false

-- `late`
abbrev pub is_late : Symbol → Bool
is_late Late = true
is_late other = false

-- `+`
abbrev pub is_plus : Symbol → Bool
is_plus Plus = true
is_plus other = false

-- the parts into which the words of a kind cut words
abbrev pub cut_at : (Symbol → Bool) → List Token → List (List Token)
cut_at kind tokens = slice_split (λ token. kind token.symbol) tokens

-- some word is of that kind
abbrev pub has_kind : (Symbol → Bool) → List Token → Bool
has_kind kind tokens = list_any (λ token. kind token.symbol) tokens

-- a row as it is written: the words of each cell, and those after its `]` up to the next row or the side's end
pub record WrittenRow : Type 0 where
  pub cells : List (List Token)
  pub behind : List Token

-- a side as it is written: the words before its first row, and its rows
pub record WrittenSide : Type 0 where
  pub ahead : List Token
  pub rows : List WrittenRow

-- a rule as it is written
pub record RuleShape : Type 0 where
  pub left : WrittenSide
  pub right : WrittenSide

-- the row of what stands after a `[`, cut at each `]`: there is one
abbrev pub row_of_parts : List (List Token) → Option WrittenRow
row_of_parts (inside ∷ behind ∷ []) = Some (record { cells = cut_at is_bar inside; behind = behind })
row_of_parts [] = None
row_of_parts (inside ∷ []) = None
row_of_parts (inside ∷ behind ∷ more ∷ others) = None

-- the row of what stands after a `[`, up to the next one
abbrev pub row_of : List Token → Option WrittenRow
row_of tokens = row_of_parts (cut_at is_close tokens)

-- the side of words that are cut at each `[`: before the first of them stands no `]`
abbrev pub side_of_parts : List (List Token) → Option WrittenSide
side_of_parts [] = None
side_of_parts (ahead ∷ parts) = do
  rows ← all_there (map row_of parts)
  only_if (not (has_kind is_close ahead)) (record { ahead = ahead; rows = rows })

-- the side of the words left or right of `->`
abbrev pub side_of : List Token → Option WrittenSide
side_of tokens = side_of_parts (cut_at is_open tokens)

-- the shape of words that are cut at each `->`: there is one
abbrev pub shape_of_parts : List (List Token) → Option RuleShape
shape_of_parts (before ∷ behind ∷ []) = do
  left ← side_of before
  right ← side_of behind
  Some (record { left = left; right = right })
shape_of_parts [] = None
shape_of_parts (before ∷ []) = None
shape_of_parts (before ∷ behind ∷ more ∷ others) = None

-- the shape of a rule's words
abbrev pub shape_of : List Token → Option RuleShape
shape_of tokens = shape_of_parts (cut_at is_arrow tokens)

-- there are rows
abbrev pub has_rows : List WrittenRow → Bool
has_rows [] = false
has_rows (row ∷ rows) = true

-- what stands after the last row of a side, or all of it where it has no row: there a right side has its commands
abbrev pub at_end : WrittenSide → List Token
at_end side = fold (λ words row. row.behind) side.ahead side.rows

-- what stands outside brackets before rows: these words before the first of them, and those between two
abbrev pub words_before : List Token → List WrittenRow → List Token
words_before words [] = []
words_before words (row ∷ rows) = words ++ words_before row.behind rows

-- what stands outside brackets before the last row of a side
abbrev pub before_end : WrittenSide → List Token
before_end side = words_before side.ahead side.rows

-- the words after the rows of a side
abbrev pub words_behind : WrittenSide → List Token
words_behind side = flat_map (λ row. row.behind) side.rows

-- the cells of a side, whatever their rows
abbrev pub cells_of_side : WrittenSide → List (List Token)
cells_of_side side = flat_map (λ row. row.cells) side.rows

-- the words in a side's brackets, bars aside
abbrev pub words_in_cells : WrittenSide → List Token
words_in_cells side = flat_map (λ words. words) (cells_of_side side)

-- each list beside the one at its place among others; beside an empty list, where there is none
abbrev pub beside : {A : Type 0} → List (List A) → List (List A) → List (List A × List A)
beside [] others = []
beside (first ∷ lists) others = (first, slice_index_or others 0 []) ∷ beside lists (drop 1 others)

-- the cells of two rows, each with its words on the left and on the right
abbrev pub paired_cells : List (List Token) × List (List Token) → List (List Token × List Token)
paired_cells rows = beside rows.0 rows.1

-- the rows of a rule, each with its cells on the left and on the right; where the right has no rows, its cells are
-- empty
abbrev pub paired_rows : RuleShape → List (List (List Token) × List (List Token))
paired_rows shape = beside (map (λ row. row.cells) shape.left.rows) (map (λ row. row.cells) shape.right.rows)
