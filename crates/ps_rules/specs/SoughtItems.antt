-- Looking for occurrences of names and of movement words.
use Rattle.std.specs.Prelude.{ℕ, Bool, ◌&&◌, Option, Some, None, List, [], ◌∷◌}
use Rattle.std.specs.List.{flat_map}
use Rattle.ps_model.specs.meaning.Occurrences.{names_it, moves_so}
use Rattle.ps_model.specs.rules.SourceRules.{Item, CellPair}
use Rattle.ps_names.specs.Shown.{meaning_shown}
use Rattle.ps_rules.specs.declared.sought.Sought.{Sought}
use Rattle.ps_rules.specs.declared.sought.Sought.TheVariants.{Name, Word, Both}
use Rattle.ps_rules.specs.declared.sought.Found.{Found}
use Rattle.ps_rules.specs.declared.sought.Found.TheVariants.{Nothing, Only, Several}

-- the item is one that is looked for
abbrev pub is_sought : Sought → Item → Bool
is_sought (Name meaning) item = names_it (meaning_shown meaning.now) item
is_sought (Word word) item = moves_so word item
is_sought (Both word meaning) item = names_it (meaning_shown meaning.now) item && moves_so word item

-- what is found with one more
abbrev pub found_with : Found → ℕ → Found
found_with Nothing number = Only number
found_with (Only other) number = Several
found_with Several number = Several

-- what is found with these numbers, too
abbrev pub found_from : Found → List ℕ → Found
found_from found [] = found
found_from found (number ∷ numbers) = found_from (found_with found number) numbers

-- the one that is found, if there is no other
abbrev pub only_found : Found → Option ℕ
only_found Nothing = None
only_found (Only number) = Some number
only_found Several = None

abbrev pub first_number : List ℕ → Option ℕ
first_number [] = None
first_number (number ∷ numbers) = Some number

-- the items of the left of cells
abbrev pub left_of : List CellPair → List Item
left_of cells = flat_map (λ cell. cell.left) cells
