-- Two sets of columns joined to one.
use Rattle.std.specs.Prelude.{ℕ, Bool, List, ◌&&◌, ◌||◌, not, if◌then◌else◌}
use Rattle.ps_board.specs.declared.many_words.Joining.{Joining}
use Rattle.ps_board.specs.declared.many_words.Joining.TheVariants.{Both, Either, Without, Unlike}
use Rattle.ps_board.specs.ColumnSets.{column_at, columns_where}
use Rattle.ps_board.specs.WordLists.{words_have}

-- whether a column is in the joined set, as it is in the two
abbrev pub joined : Joining → Bool → Bool → Bool
joined Both first second = first && second
joined Either first second = first || second
joined Without first second = first && not second
joined Unlike first second = if first then not second else second

abbrev pub joined_columns : Joining → List Bool → List Bool → List Bool
joined_columns joining columns others = columns_where (λ x. joined joining (column_at columns x) (column_at others x))

-- the same of the columns of words
abbrev pub words_joined : Joining → List ℕ → List ℕ → ℕ → Bool
words_joined joining words others x = joined joining (words_have words x) (words_have others x)
