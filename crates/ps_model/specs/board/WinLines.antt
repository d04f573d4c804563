-- The lines of WINCONDITIONS: `No X`, `Some X` or `Any X`, `All X`, and each of these with `on Y`. X and Y are names; a
-- key word may be one.
use Rattle.std.specs.Prelude.{ℕ, Bool, false, ◌&&◌, not, if◌then◌else◌, Option, Some, None, is_some, option_map, List}
use Rattle.std.specs.Prelude.{[], ◌∷◌, ◌++◌, codes}
use Rattle.std.specs.List.{filter_map, flat_map}
use Rattle.std.specs.Str.{bytes_eq}
use Rattle.std.specs.Map.{lookup}
use Rattle.ps_model.specs.declared.rules.Quantifier.{Quantifier}
use Rattle.ps_model.specs.declared.rules.Quantifier.TheVariants as asked
use Rattle.ps_model.specs.declared.faults.Fault.{Fault}
use Rattle.ps_model.specs.declared.faults.FaultKind.TheVariants.{BadWin, UnknownWinName}
use Rattle.ps_model.specs.text.OptionSteps.{◌>>=◌}
use Rattle.ps_model.specs.text.Faults.{when}
use Rattle.ps_model.specs.text.Lines.{Line, folded, is_blank_line, words_of_line}
use Rattle.ps_model.specs.names.Names.{Meaning, Names, meaning_of}
use Rattle.ps_model.specs.board.Wins.{Win}

-- a win condition as it is written, by its names
pub record WinText : Type 0 where
  pub quantifier : Quantifier
  pub subject : List ℕ
  -- the name after `on`
  pub place : Option (List ℕ)

-- the first words of win conditions
abbrev pub quantifiers : List (List ℕ × Quantifier)
quantifiers =
    (codes "no", asked.No) ∷ (codes "some", asked.Some) ∷ (codes "any", asked.Some) ∷ (codes "all", asked.All) ∷ []

-- a win condition with that first word and these names, if the word is one of those
abbrev pub win_with : List ℕ → List ℕ → Option (List ℕ) → Option WinText
win_with word subject place =
    option_map (λ quantifier. record { quantifier = quantifier; subject = subject; place = place })
    (lookup (bytes_eq (folded word)) quantifiers)

-- the win condition that words are, if they have the form of one
abbrev pub win_of_words : List (List ℕ) → Option WinText
win_of_words (word ∷ subject ∷ []) = win_with word subject None
win_of_words (word ∷ subject ∷ on ∷ place ∷ []) =
    if bytes_eq (folded on) (codes "on") then win_with word subject (Some place) else None
win_of_words words = None

-- the win condition that a line is, as it is written
abbrev pub win_text : Line → Option WinText
win_text line = win_of_words (words_of_line line)

-- what the name after `on` stands for, if one is there and declared; without one, nothing is asked
abbrev pub place_read : Names → Option (List ℕ) → Option (Option Meaning)
place_read names None = Some None
place_read names (Some name) = option_map (λ meaning. Some meaning) (meaning_of names name)

-- the win condition with what its names stand for, if they are declared
abbrev pub win_read : Names → WinText → Option Win
win_read names text = do
  subject ← meaning_of names text.subject
  place ← place_read names text.place
  Some (record { quantifier = text.quantifier; subject = subject; place = place })

-- the win conditions of the lines of WINCONDITIONS; a line with a fault is none
abbrev pub wins_read : Names → List Line → List Win
wins_read names lines = filter_map (λ line. win_text line >>= win_read names) lines

-- faults --------------------------------------------------------------------------------------------------------------

-- no win condition, WN1: a line that isn't blank has the form of none
abbrev pub is_bad_win : Line → Bool
is_bad_win line = not (is_blank_line line) && not (is_some (win_text line))

-- an unknown name, WN2: a win condition has a name that isn't declared
abbrev pub has_unknown_name : Names → Option WinText → Bool
has_unknown_name names None = false
has_unknown_name names (Some text) = not (is_some (win_read names text))

-- the faults of a line of WINCONDITIONS
abbrev pub win_faults_of : Names → Line → List Fault
win_faults_of names line =
    when (is_bad_win line) BadWin line.number
    ++ when (has_unknown_name names (win_text line)) UnknownWinName line.number

-- the faults of WINCONDITIONS, line by line
abbrev pub win_faults : Names → List Line → List Fault
win_faults names lines = flat_map (win_faults_of names) lines
