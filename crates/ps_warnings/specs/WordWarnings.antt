-- Words of RULES and LEVELS that say nothing: `late` where the rule has said it before, and `message` without a text.
use Rattle.std.specs.Prelude.{ℕ, Bool, false, ◌==◌, if◌then◌else◌, Option, Some, None, List, [], ◌∷◌, ◌++◌, length, codes}
use Rattle.std.specs.List.{flat_map, list_any}
use Rattle.ps_model.specs.declared.texts.Cut.TheVariants.{Rule}
use Rattle.ps_model.specs.text.Lines.{Line, Taken}
use Rattle.ps_text.specs.WordViews.{texts_under}
use Rattle.ps_warnings.specs.declared.kinds.Warning.{Warning}
use Rattle.ps_warnings.specs.declared.kinds.WarningKind.{WarningKind}
use Rattle.ps_warnings.specs.declared.kinds.WarningKind.TheVariants.{LateTwice, NoText}
use Rattle.ps_warnings.specs.InOrder.{in_order}
use Rattle.ps_warnings.specs.RepeatedRules.{repeated_rules}
use Rattle.ps_warnings.specs.RowWarnings.{row_warnings}
use Rattle.ps_warnings.specs.Sounds.{is_same}

-- the word is `late`
abbrev pub is_late : List ℕ → Bool
is_late word = is_same word (codes "late")

-- two of the words are
abbrev pub are_late_twice : List (List ℕ) → Bool
are_late_twice [] = false
are_late_twice (word ∷ words) = if is_late word then list_any is_late words else are_late_twice words

-- a text that a line takes as it stands, which is that of a message, is empty
abbrev pub is_empty_text : Option Taken → Bool
is_empty_text None = false
is_empty_text (Some taken) = length taken.bytes == 0

-- a warning of a line, if it is wanted
abbrev pub warned_if : Bool → WarningKind → ℕ → List Warning
warned_if wanted kind line = if wanted then record { line = line; kind = kind } ∷ [] else []

-- a line of RULES
abbrev pub warnings_of_words : Line → List Warning
warnings_of_words line =
    warned_if (are_late_twice (texts_under Rule line.bytes)) LateTwice line.number
    ++ warned_if (is_empty_text line.taken) NoText line.number

-- a line of LEVELS
abbrev pub warnings_of_message : Line → List Warning
warnings_of_message line = warned_if (is_empty_text line.taken) NoText line.number

-- the lines of RULES: those that stand twice too
abbrev pub written_warnings : List Line → List Warning
written_warnings lines = in_order (repeated_rules lines) (flat_map warnings_of_words lines)

-- the lines of LEVELS: rows of another width too
abbrev pub level_line_warnings : List Line → List Warning
level_line_warnings lines = in_order (row_warnings lines) (flat_map warnings_of_message lines)
