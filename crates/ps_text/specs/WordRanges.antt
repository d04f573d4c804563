-- Where a word stands in its line, and what a search for the next word finds.
use Rattle.std.specs.Prelude.{ℕ, ◌≡◌, ◌+◌, ◌≤◌, ◌<◌, false, Option, Some, None, List, [], ◌∷◌, length, drop}
use Rattle.std.specs.Prelude.{slice_index}
use Rattle.std.specs.Str.{IsCharBoundary}
use Rattle.ps_model.specs.declared.texts.Cut.{Cut}
use Rattle.ps_model.specs.declared.texts.Cut.TheVariants.{Blanks, Legend, Layers, Rule}
use Rattle.ps_model.specs.text.Words.{is_blank, words_from}
use Rattle.ps_model.specs.text.RuleWords.{rule_words_from}
use Rattle.ps_text.specs.declared.scan.ByteRange.{ByteRange}

-- the words of a line from the one found on
abbrev pub words_with : Cut → List ℕ → Option ByteRange → List (ℕ × ℕ)
words_with cut line None = []
words_with cut line (Some range) = (range.start, range.end) ∷ words_from cut range.end None (drop range.end line)

-- the words of a line of RULES from a place on that stands between words, its `+` cut off
abbrev pub rule_words_behind : List ℕ → ℕ → List (ℕ × ℕ)
rule_words_behind line place = rule_words_from 0 place None (drop place line)

-- the words of a line of RULES from the one found on
abbrev pub rule_words_with : List ℕ → Option ByteRange → List (ℕ × ℕ)
rule_words_with line None = []
rule_words_with line (Some range) = (range.start, range.end) ∷ rule_words_behind line range.end

-- the words of a line under any cut from a place on that stands between words
abbrev pub words_behind : Cut → List ℕ → ℕ → List (ℕ × ℕ)
words_behind Blanks line place = words_from Blanks place None (drop place line)
words_behind Legend line place = words_from Legend place None (drop place line)
words_behind Layers line place = words_from Layers place None (drop place line)
words_behind Rule line place = rule_words_behind line place

-- the words of a line under any cut from the one found on
abbrev pub words_found : Cut → List ℕ → Option ByteRange → List (ℕ × ℕ)
words_found cut line None = []
words_found cut line (Some range) = (range.start, range.end) ∷ words_behind cut line range.end

-- no blank stands between two places of a line
abbrev pub IsSolid : List ℕ → ℕ → ℕ → Type 0
IsSolid line start end = (i : ℕ) → start ≤ i → i < end → is_blank (slice_index line i) ≡ false

-- `->` stands there
pub record IsArrow (line : List ℕ) (at : ℕ) : Type 0 where
  pub within : at + 1 < length line
  pub first : slice_index line at ≡ 45
  pub second : slice_index line (at + 1) ≡ 62

-- a word without blanks can be cut out of the line there, and begins no earlier than from that place on
pub record IsWordRange (line : List ℕ) (from : ℕ) (range : ByteRange) : Type 0 where
  pub behind : from ≤ range.start
  pub holds : range.start < range.end
  pub start : IsCharBoundary line range.start
  pub end : IsCharBoundary line range.end
  pub solid : IsSolid line range.start range.end
