-- How many rows and cells stand on a side of a rule.
use Rattle.std.specs.Prelude.{ℕ, ◌+◌, ◌||◌, if◌then◌else◌, List, [], ◌∷◌, fold}
use Rattle.ps_facts.specs.declared.signs.Sign.TheVariants.{Opening, Bar}
use Rattle.ps_facts.specs.Signs.{is_sign, is_edge}

-- how many cells a row has up to its end, the first bracket or arrow, where `count` are before
abbrev pub cells_from : ℕ → List (List ℕ) → ℕ
cells_from count [] = count
cells_from count (word ∷ words) =
    if is_edge word then count else cells_from (if is_sign Bar word then count + 1 else count) words

-- how many cells each row among words has; a row begins at a `[`, and a bar parts two cells
abbrev pub cell_counts : List (List ℕ) → List ℕ
cell_counts [] = []
cell_counts (word ∷ words) = if is_sign Opening word then cells_from 1 words ∷ cell_counts words else cell_counts words

-- one more cell after a word that begins one: a `[` or a bar
abbrev pub begun_behind : ℕ → List ℕ → ℕ
begun_behind count word = if is_sign Opening word || is_sign Bar word then count + 1 else count

-- how many cells begin among words
abbrev pub cells_begun : List (List ℕ) → ℕ
cells_begun words = fold begun_behind 0 words
