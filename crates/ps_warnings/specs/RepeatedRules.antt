-- Rules that stand twice. A rule says word by word what one above it says in its own group. Or it begins a group, and one
-- of the group right above says so. That group goes on until nothing of it can do anything, so the second does nothing.
-- A `+` that joins a rule to the group isn't one of its words. Letters are compared in either case.
use Rattle.std.specs.Prelude.{ℕ, Bool, true, false, ◌&&◌, not, if◌then◌else◌, Option, Some, None, List, [], ◌∷◌, ◌++◌}
use Rattle.std.specs.Prelude.{codes, drop, filter, find, map, option_map, slice_index_or}
use Rattle.std.specs.Str.{bytes_eq}
use Rattle.ps_model.specs.declared.texts.Cut.TheVariants.{Rule}
use Rattle.ps_model.specs.text.Lines.{Line, is_blank_line, taken_bytes}
use Rattle.ps_text.specs.WordViews.{texts_under}
use Rattle.ps_warnings.specs.declared.kinds.Warning.{Warning}
use Rattle.ps_warnings.specs.declared.kinds.WarningKind.TheVariants.{RuleTwice}
use Rattle.ps_warnings.specs.Sounds.{is_same}

-- a line of RULES by its number, its words, and the text of its message
pub record WrittenRule : Type 0 where
  pub number : ℕ
  pub words : List (List ℕ)
  pub message : List ℕ

abbrev pub written_rule : Line → WrittenRule
written_rule line =
    record { number = line.number; words = texts_under Rule line.bytes; message = taken_bytes line }

-- a `+` joins the rule of these words to the group above
abbrev pub is_joined : List (List ℕ) → Bool
is_joined words = bytes_eq (slice_index_or words 0 []) (codes "+")

-- the words without that
abbrev pub own_words : List (List ℕ) → List (List ℕ)
own_words words = if is_joined words then drop 1 words else words

-- the words are the same, letters folded
abbrev pub same_words : List (List ℕ) → List (List ℕ) → Bool
same_words [] [] = true
same_words [] (other ∷ others) = false
same_words (word ∷ words) [] = false
same_words (word ∷ words) (other ∷ others) = is_same word other && same_words words others

-- both lines say the same
abbrev pub is_same_rule : WrittenRule → WrittenRule → Bool
is_same_rule rule other =
    same_words (own_words rule.words) (own_words other.words) && bytes_eq rule.message other.message

-- the group of a rule, below the group above
abbrev pub group_with : List WrittenRule → WrittenRule → List WrittenRule
group_with above rule = if is_joined rule.words then above ++ rule ∷ [] else rule ∷ []

-- the line of the first rule above that says the same, if there is one
abbrev pub twin_of : WrittenRule → List WrittenRule → Option ℕ
twin_of rule above = option_map (λ other. other.number) (find (is_same_rule rule) above)

-- a rule at a line that says the same as one at another line, if there is one
abbrev pub warned_of_twin : ℕ → Option ℕ → List Warning
warned_of_twin line None = []
warned_of_twin line (Some other) = record { line = line; kind = RuleTwice other } ∷ []

-- rules right below a group
abbrev pub twice_below : List WrittenRule → List WrittenRule → List Warning
twice_below above [] = []
twice_below above (rule ∷ rules) =
    warned_of_twin rule.number (twin_of rule above) ++ twice_below (group_with above rule) rules

-- the rules of the lines of RULES
abbrev pub written_rules : List Line → List WrittenRule
written_rules lines = map written_rule (filter (λ line. not (is_blank_line line)) lines)

abbrev pub repeated_rules : List Line → List Warning
repeated_rules lines = twice_below [] (written_rules lines)
