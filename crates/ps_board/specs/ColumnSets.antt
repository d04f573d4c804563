-- A set of columns of one row of a board, as a list of truth values: value x tells whether column x is in the set.
-- There are as many values as a board has columns at most.
use Rattle.std.specs.Prelude.{ℕ, ◌+◌, ◌-◌, ◌*◌, ◌^◌, nat_eq, nat_le, nat_lt, if◌then◌else◌, ◌&&◌, ◌||◌, not, Bool}
use Rattle.std.specs.Prelude.{false, List, [], ◌∷◌, map, filter, slice_get, slice_index_or}
use Rattle.std.specs.List.{range_with_len}
use Rattle.std.specs.Int.{bit_at}
use Rattle.ps_model.specs.declared.limits.TheConstants.{SIDE_LIMIT}
use Rattle.ps_model.specs.board.Grid.{Grid}
use Rattle.ps_model.specs.board.Places.{fits_there}
use Rattle.ps_model.specs.meaning.RuleMeanings.{CellMeaning}

-- the columns of which something holds
unfoldable pub columns_where : (ℕ → Bool) → List Bool
columns_where holds = map holds (range_with_len 0 SIDE_LIMIT)

-- whether a column is in a set
abbrev pub column_at : List Bool → ℕ → Bool
column_at columns x = slice_index_or columns x false

-- the numbers of a set's columns, in rising order
unfoldable pub set_columns : List Bool → List ℕ
set_columns columns = filter (column_at columns) (range_with_len 0 SIDE_LIMIT)

-- the columns of a word's bits that are set
abbrev pub bit_is_set : ℕ → ℕ → Bool
bit_is_set word x = nat_eq (bit_at word x) 1

abbrev pub word_columns : ℕ → List Bool
word_columns word = columns_where (bit_is_set word)

-- the word with these bits
abbrev pub columns_word : List Bool → ℕ
columns_word [] = 0
columns_word (set ∷ columns) = columns_word columns * 2 ^ 1 + (if set then 1 else 0)

-- no columns, and those below a number
abbrev pub no_columns : List Bool
no_columns = columns_where (λ x. false)

abbrev pub columns_below : ℕ → List Bool
columns_below count = columns_where (λ x. nat_lt x count)

-- a set with a column in it or not
abbrev pub with_column : List Bool → ℕ → Bool → List Bool
with_column columns column set = columns_where (λ x. if nat_eq x column then set else column_at columns x)

-- the columns that are in both of two sets, and in one of them at least
abbrev pub both_columns : List Bool → List Bool → List Bool
both_columns columns others = columns_where (λ x. column_at columns x && column_at others x)

abbrev pub either_columns : List Bool → List Bool → List Bool
either_columns columns others = columns_where (λ x. column_at columns x || column_at others x)

-- the columns of one set that aren't in another
abbrev pub columns_without : List Bool → List Bool → List Bool
columns_without columns others = columns_where (λ x. column_at columns x && not (column_at others x))

-- the columns that are in one of two sets alone
abbrev pub unlike_columns : List Bool → List Bool → List Bool
unlike_columns columns others =
    columns_where (λ x. if column_at columns x then not (column_at others x) else column_at others x)

-- the columns so many of whose neighbours to the right on is one of the set
abbrev pub columns_behind : List Bool → ℕ → List Bool
columns_behind columns count = columns_where (λ x. column_at columns (x + count))

-- the columns so many of whose neighbours to the left on is one of the set
abbrev pub columns_ahead : List Bool → ℕ → List Bool
columns_ahead columns count = columns_where (λ x. nat_le count x && column_at columns (x - count))

-- the cells of a row of a grid that fit
abbrev pub row_fits : Grid → CellMeaning → ℕ → List Bool
row_fits g meaning row = columns_where (λ x. fits_there meaning (slice_get g.cells (x * g.height + row)))
