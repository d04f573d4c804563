-- The lines of LEGEND. `X = Y` makes X another name for Y, a synonym; `X = A and B` makes it an aggregate, all of the
-- names that `and` joins; `X = A or B` a property, any of the names that `or` joins. Key words may be names.
use Rattle.std.specs.Prelude.{ℕ, Bool, ◌&&◌, ◌||◌, Option, None, Some, option_map, List, [], ◌∷◌, if◌then◌else◌, drop}
use Rattle.std.specs.Prelude.{codes, filter_map}
use Rattle.std.specs.List.{list_any}
use Rattle.std.specs.Str.{bytes_eq}
use Rattle.ps_model.specs.declared.texts.Joiner.{Joiner}
use Rattle.ps_model.specs.declared.texts.Joiner.TheVariants.{Alone, And, Or}
use Rattle.ps_model.specs.text.OptionSteps.{◌>>=◌}
use Rattle.ps_model.specs.text.Lines.{folded}
use Rattle.ps_model.specs.text.WrittenLines.{WrittenLine}

-- the right side of a legend line: names, and how they are joined
pub record RightSide : Type 0 where
  pub joiner : Joiner
  pub mentions : List (List ℕ)

-- what a legend line declares
pub record Declaration : Type 0 where
  pub line : ℕ
  -- the name, as it is written
  pub name : List ℕ
  pub right : RightSide

-- the word is this key word, letters folded
abbrev pub is_key_word : List ℕ → List ℕ → Bool
is_key_word key word = bytes_eq (folded word) key

-- the names of a list of words that begins and ends with a name, and has the key word between each name and the next
abbrev pub joined_by : List ℕ → List (List ℕ) → Option (List (List ℕ))
joined_by key [] = None
joined_by key (name ∷ []) = Some (name ∷ [])
joined_by key (name ∷ word ∷ others) = if is_key_word key word then option_map (λ names.
    name ∷ names) (joined_by key others) else None

-- names with that key word between them
abbrev pub side_by : Joiner → List ℕ → List (List ℕ) → Option RightSide
side_by joiner key words = option_map (λ names. record { joiner = joiner; mentions = names }) (joined_by key words)

-- one name, or names joined by `and`, or names joined by `or`
abbrev pub right_side : List (List ℕ) → Option RightSide
right_side [] = None
right_side (name ∷ []) = Some (record { joiner = Alone; mentions = name ∷ [] })
right_side (name ∷ word ∷ others) =
    if is_key_word (codes "and") word then side_by And (codes "and") (name ∷ word ∷ others) else side_by Or
    (codes "or") (name ∷ word ∷ others)

-- the name that a legend line declares: its first word where `=` is its second, whatever follows
abbrev pub name_declared : List (List ℕ) → Option (List ℕ)
name_declared [] = None
name_declared (name ∷ []) = None
name_declared (name ∷ second ∷ right) = if bytes_eq second (codes "=") then Some name else None

-- the word is the sign that parts a line's two sides
abbrev pub is_equals_sign : List ℕ → Bool
is_equals_sign word = bytes_eq word (codes "=")

-- what a line with these two sides declares: no name of LEGEND is written as the sign is
abbrev pub declared_with : ℕ → List ℕ → List (List ℕ) → Option Declaration
declared_with number name others =
    if is_equals_sign name || list_any is_equals_sign others then None else option_map (λ right.
    record { line = number; name = name; right = right }) (right_side others)

-- what a line declares; a line of another form declares nothing
abbrev pub declared_by : WrittenLine → Option Declaration
declared_by line = do
  name ← name_declared line.words
  declared_with line.number name (drop 2 line.words)

-- what the lines of LEGEND declare
abbrev pub declarations : List WrittenLine → List Declaration
declarations lines = filter_map declared_by lines

-- the line has that key word, wherever it stands
abbrev pub has_key_word : List ℕ → WrittenLine → Bool
has_key_word key line = list_any (is_key_word key) line.words

-- both `and` and `or` stand in the line
abbrev pub is_mixed : WrittenLine → Bool
is_mixed line = has_key_word (codes "and") line && has_key_word (codes "or") line
