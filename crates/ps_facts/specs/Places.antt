-- Where a word of a rule stands: in brackets or not, and in which cell.
use Rattle.std.specs.Prelude.{ℕ, Bool, true, false, ◌||◌, if◌then◌else◌, List, [], ◌∷◌, fold}
use Rattle.ps_facts.specs.declared.signs.Sign.{Sign}
use Rattle.std.specs.List.{list_any}
use Rattle.ps_facts.specs.declared.signs.Sign.TheVariants.{Opening, Bar, Without}
use Rattle.ps_facts.specs.Signs.{is_same, is_sign, is_edge}

-- brackets are open after a word, where they are or aren't before it
abbrev pub inside_behind : Bool → List ℕ → Bool
inside_behind inside word = if is_edge word then is_sign Opening word else inside

-- what follows these words of a line stands in brackets
abbrev pub is_inside : List (List ℕ) → Bool
is_inside before = fold inside_behind false before

-- the first bracket or arrow among words is that one
abbrev pub comes_first : Sign → List (List ℕ) → Bool
comes_first sign [] = false
comes_first sign (word ∷ words) = if is_edge word then is_sign sign word else comes_first sign words

-- the word parts cells
abbrev pub parts_cells : List ℕ → Bool
parts_cells word = is_edge word || is_sign Bar word

-- a name has stood in the cell after a word, where it has or hasn't before it
abbrev pub seen_behind : List ℕ → Bool → List ℕ → Bool
seen_behind name seen word = if parts_cells word then false else (seen || is_same name word)

-- a name stands in the cell in which these words of a line end
abbrev pub is_in_cell : List ℕ → List (List ℕ) → Bool
is_in_cell name before = fold (seen_behind name) false before

-- a word among these parts cells
abbrev pub are_parted : List (List ℕ) → Bool
are_parted words = list_any parts_cells words

-- `no` stands right before what follows these words
abbrev pub is_barred : List (List ℕ) → Bool
is_barred before = fold (λ last word. is_sign Without word) false before

-- that sign stands right before what follows these words
abbrev pub ends_in : Sign → List (List ℕ) → Bool
ends_in sign before = fold (λ last word. is_sign sign word) false before

-- what stands right before what follows these words parts cells, if something does
abbrev pub ends_parted : List (List ℕ) → Bool
ends_parted before = fold (λ last word. parts_cells word) true before
