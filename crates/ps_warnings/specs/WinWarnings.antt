-- Win conditions that always hold, and so ask for nothing: `All X` without `on Y`, and `All X on X`. And those whose two
-- names stand for what can't be in one cell: then `Some X on Y` never holds, `No X on Y` always does, and `All X on Y`
-- only where no cell has X. And those that name what no level has and no rule brings.
use Rattle.std.specs.Prelude.{ℕ, Bool, false, ◌&&◌, ◌||◌, if◌then◌else◌, Option, Some, None, List, [], ◌∷◌, codes}
use Rattle.std.specs.List.{flat_map}
use Rattle.ps_model.specs.names.Names.{Names, meaning_of}
use Rattle.ps_model.specs.text.Lines.{Line, words_of_line}
use Rattle.ps_warnings.specs.declared.kinds.Warning.{Warning}
use Rattle.ps_warnings.specs.declared.kinds.WarningKind.{WarningKind}
use Rattle.ps_warnings.specs.declared.kinds.WarningKind.TheVariants.{ApartWin, IdleWin, LackingWin}
use Rattle.ps_warnings.specs.Needs.{never_is}
use Rattle.ps_warnings.specs.Sharing.{are_apart}
use Rattle.ps_warnings.specs.Sounds.{is_same}

-- four words say `All X on X`
abbrev pub is_all_on_itself : List ℕ → List ℕ → List ℕ → List ℕ → Bool
is_all_on_itself word subject on place =
    is_same word (codes "all") && (is_same on (codes "on") && is_same subject place)

-- a win condition of these words always holds
abbrev pub always_holds : List (List ℕ) → Bool
always_holds (word ∷ subject ∷ []) = is_same word (codes "all")
always_holds (word ∷ subject ∷ on ∷ place ∷ []) = is_all_on_itself word subject on place
always_holds words = false

-- what the two names of one of these words stand for can't be in one cell
abbrev pub has_apart : Names → List (List ℕ) → Bool
has_apart names (word ∷ subject ∷ on ∷ place ∷ []) =
    are_apart names (meaning_of names subject) (meaning_of names place)
has_apart names words = false

-- a name of one of these words stands for what can't come to be
abbrev pub names_lacking : Names → List Bool → List (List ℕ) → Bool
names_lacking names there (word ∷ subject ∷ []) = never_is names there subject
names_lacking names there (word ∷ subject ∷ on ∷ place ∷ []) =
    never_is names there subject || never_is names there place
names_lacking names there words = false

-- what is wrong with one of these words, if something is
abbrev pub kind_of_win : Names → List Bool → List (List ℕ) → Option WarningKind
kind_of_win names there words =
    if always_holds words then Some IdleWin else if has_apart names words then Some ApartWin
    else if names_lacking names there words then Some LackingWin else None

-- one at a line, if something is wrong with it
abbrev pub warned_of_win : Option WarningKind → ℕ → List Warning
warned_of_win None line = []
warned_of_win (Some kind) line = record { line = line; kind = kind } ∷ []

-- a line of WINCONDITIONS
abbrev pub warnings_of_win : Names → List Bool → Line → List Warning
warnings_of_win names there line = warned_of_win (kind_of_win names there (words_of_line line)) line.number

-- all of them, where these objects may come to be
abbrev pub win_warnings : Names → List Bool → List Line → List Warning
win_warnings names there lines = flat_map (warnings_of_win names there) lines
