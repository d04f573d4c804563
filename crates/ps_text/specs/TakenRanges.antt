-- The text of a line that is taken as it stands, by its range.
use Rattle.std.specs.Prelude.{ℕ, ◌≡◌, ◌+◌, ◌-◌, ◌≤◌, ◌<◌, ◌++◌, false, Option, Some, None, List, [], length, take, drop}
use Rattle.std.specs.Prelude.{replicate, slice_index, slice_range}
use Rattle.std.specs.List.{prefix_len}
use Rattle.std.specs.Str.{IsCharBoundary}
use Rattle.ps_model.specs.text.Words.{is_blank}
use Rattle.ps_model.specs.text.Lines.{without_blank_end}
use Rattle.ps_text.specs.declared.scan.ByteRange.{ByteRange}
use Rattle.ps_text.specs.WordRanges.{rule_words_behind}

-- the words of a line of RULES past a place, if there is one
abbrev pub words_past : List ℕ → Option ℕ → List (ℕ × ℕ)
words_past line None = []
words_past line (Some place) = rule_words_behind line place

-- a text may begin there: right after an ASCII byte that is no blank
pub record IsTextStart (line : List ℕ) (place : ℕ) : Type 0 where
  pub some : 0 < place
  pub within : place ≤ length line
  pub ascii : slice_index line (place - 1) < 128
  pub solid : is_blank (slice_index line (place - 1)) ≡ false

-- a text, maybe an empty one, can be cut out there
pub record IsTextRange (text : List ℕ) (range : ByteRange) : Type 0 where
  pub order : range.start ≤ range.end
  pub start : IsCharBoundary text range.start
  pub end : IsCharBoundary text range.end

abbrev pub start_of : ByteRange → ℕ
start_of range = range.start

-- bytes without the blanks at both ends
abbrev pub trimmed_of : List ℕ → List ℕ
trimmed_of bytes = without_blank_end (drop (prefix_len is_blank bytes) bytes)

-- a line with blanks for a region of it, if there is one
abbrev pub bytes_without : List ℕ → Option ByteRange → List ℕ
bytes_without plain None = plain
bytes_without plain (Some region) = take region.start plain ++
    (replicate (region.end - region.start) 32 ++ drop region.end plain)

-- the text of a region, if there is one, without the blanks at both ends
abbrev pub IsTrimmed : List ℕ → Option ByteRange → Option ByteRange → Type 0
IsTrimmed raw None taken = taken ≡ None
IsTrimmed raw (Some region) None = ⊥
IsTrimmed raw (Some region) (Some taken) =
    (taken.start ≡ region.start + prefix_len is_blank (slice_range raw region.start region.end))
    × (slice_range raw taken.start taken.end ≡ trimmed_of (slice_range raw region.start region.end))
