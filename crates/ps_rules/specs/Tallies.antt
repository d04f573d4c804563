-- What is found of each name and of each movement word among items.
use Rattle.std.specs.Prelude.{◌≡◌, filter, ℕ, nat_eq, Bool, false, cond, Option, unwrap_or, List}
use Rattle.std.specs.Map.{lookup}
use Rattle.ps_model.specs.declared.rules.MovementWord.{MovementWord}
use Rattle.ps_model.specs.meaning.Directions.{word_number}
use Rattle.ps_model.specs.names.Names.{Meaning, One, AllOf, AnyOf}
use Rattle.ps_model.specs.meaning.Occurrences.{same_meaning, has_movement, names_it, moves_so, numbers}
use Rattle.ps_model.specs.rules.SourceRules.{Item, CellPair}
use Rattle.ps_rules.specs.SoughtItems.{found_with, found_from, left_of}
use Rattle.ps_rules.specs.declared.index.Index.{Index}
use Rattle.ps_rules.specs.declared.sought.Found.{Found}
use Rattle.ps_rules.specs.declared.sought.Found.TheVariants.{Nothing}

-- what was found of a number
abbrev pub found_of : List (ℕ × Found) → ℕ → Found
found_of entries number = unwrap_or (lookup (nat_eq number) entries) Nothing

-- what is found with one more, if the test passes
abbrev pub with_if : Bool → Found → ℕ → Found
with_if test found at = cond test (found_with found at) found

-- by what occurrences are looked for: a name, or a movement word with whatever name
pub data Key : Type 0 where
  Named : Meaning → Key
  Moving : MovementWord → Key

-- the item is one of those
abbrev pub has_key : Key → Item → Bool
has_key (Named meaning) item = names_it meaning item
has_key (Moving word) item = moves_so word item

-- the key is that name
abbrev pub is_name_key : Key → Meaning → Bool
is_name_key (Named name) meaning = same_meaning name meaning
is_name_key (Moving word) meaning = false

-- the key is that movement word
abbrev pub is_word_key : Key → Option MovementWord → Bool
is_word_key (Named name) word = false
is_word_key (Moving other) word = has_movement other word

-- what was found by a key
abbrev pub found_at : Index → Key → Found
found_at index (Named (One object)) = found_of index.objects object.0
found_at index (Named (AllOf line objects)) = found_of index.aggregates line
found_at index (Named (AnyOf line objects)) = found_of index.properties line
found_at index (Moving word) = found_of index.words (word_number word)

-- the index tells by each key what the left of the cells has
abbrev pub IsIndexOf : Index → List CellPair → Type 0
IsIndexOf index cells = (key : Key) → found_at index key ≡ found_from Nothing
    (numbers (filter (has_key key) (left_of cells)))
