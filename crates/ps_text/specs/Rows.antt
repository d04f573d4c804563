-- The table of a text's lines: a row for each line, with its place in the text.
use Rattle.std.specs.Prelude.{ℕ, ◌+◌, ◌≤◌, ◌<◌, ◌≡◌, Option, List, length, map, option_map, is_some, unwrap_or, drop}
use Rattle.std.specs.Prelude.{take, string_bytes, slice_range, All, IfSome}
use Rattle.std.specs.List.{slice_split, position_or_len}
use Rattle.std.specs.Str.{IsCharBoundary}
use Rattle.ps_model.specs.declared.texts.Section.{Section}
use Rattle.ps_model.specs.declared.limits.TheConstants.{TEXT_LIMIT}
use Rattle.ps_model.specs.text.Lines.{Line, Taken, is_line_feed, without_empty_end, without_comments, header_of}
use Rattle.ps_model.specs.text.Lines.{text_place, bytes_left, text_taken, is_read, depth_below, lines_from, lines_of}
use Rattle.ps_text.specs.declared.scan.ByteRange.{ByteRange}
use Rattle.ps_text.specs.declared.rows.Row.{Row}
use Rattle.ps_text.specs.declared.rows.LineStart.{LineStart}
use Rattle.ps_text.specs.PlainLines.{IsVeiled}
use Rattle.ps_text.specs.TakenRanges.{IsTextRange}

-- a text that is taken as it stands, by its place in the line
abbrev pub taken_at : ℕ → List ℕ → ByteRange → Taken
taken_at start raw range = record { start = start + range.start; bytes = slice_range raw range.start range.end }

-- the line that a row tells of, whose bytes are these
abbrev pub shown_as : List ℕ → Row → Line
shown_as raw row =
    record {
      number = row.number;
      start = row.start;
      section = row.section;
      is_header = row.is_header;
      bytes =
          string_bytes row.visible;
      taken = option_map (taken_at row.start raw) row.taken;
      is_there = row.is_there;
    }

-- the bytes of the line of a row
abbrev pub raw_of : List ℕ → Row → List ℕ
raw_of text row = slice_range text row.start (row.start + length (string_bytes row.visible))

-- the line that a row of the text tells of
abbrev pub shown : List ℕ → Row → Line
shown text row = shown_as (raw_of text row) row

-- the section of a line below that one
abbrev pub section_below : LineStart → List ℕ → Section
section_below above raw = unwrap_or (header_of (without_comments above.depth raw)) above.section

-- where a text begins in it
abbrev pub place_below : LineStart → List ℕ → Option ℕ
place_below above raw = text_place (section_below above raw) (without_comments above.depth raw)

-- the line
abbrev pub line_below : LineStart → List ℕ → Line
line_below above raw =
    record {
      number = above.number;
      start = above.start;
      section = section_below above raw;
      is_header = is_some (header_of (without_comments above.depth raw));
      bytes = bytes_left raw (section_below above raw) (without_comments above.depth raw) (place_below above raw);
      taken = text_taken raw above.start (section_below above raw) (place_below above raw);
      is_there = is_read above.depth raw (without_comments above.depth raw);
    }

-- what the line below that finds above it
abbrev pub next_line_start : LineStart → List ℕ → LineStart
next_line_start above raw =
    record {
      number = above.number + 1;
      start = above.start + length raw + 1;
      depth = depth_below (section_below above raw) (place_below above raw) above.depth raw;
      section = section_below above raw;
    }

-- the bytes of the line that begins at a place
abbrev pub raw_at : List ℕ → ℕ → List ℕ
raw_at text start = take (position_or_len is_line_feed (drop start text)) (drop start text)

-- the lines from a place after a line feed on
abbrev pub lines_behind : List ℕ → LineStart → List Line
lines_behind text above = lines_from above.number above.start above.depth above.section
    (without_empty_end (slice_split is_line_feed (drop above.start text)))

-- a line may begin where the line below begins, if that is a place of the text
pub record IsBelow (text : List ℕ) (above below : LineStart) : Type 0 where
  pub further : above.start < below.start
  pub within : below.start ≤ length text + 1
  pub depth : below.depth ≤ below.start
  pub counted : below.number ≤ below.start + 1
  pub cuttable : below.start ≤ length text → IsCharBoundary text below.start

-- the row is one of a line with these bytes
pub record IsRowOf (raw : List ℕ) (row : Row) : Type 0 where
  pub veiled : IsVeiled raw (string_bytes row.visible)
  pub taken : IfSome row.taken (IsTextRange raw)

-- the row's line can be cut out of the text
pub record IsRow (text : List ℕ) (row : Row) : Type 0 where
  pub start : IsCharBoundary text row.start
  pub end : IsCharBoundary text (row.start + length (string_bytes row.visible))
  pub whole : IsRowOf (raw_of text row) row

-- the rows are those of the text's lines
pub record IsTable (text : List ℕ) (rows : List Row) : Type 0 where
  pub short : length text ≤ TEXT_LIMIT
  pub told : map (shown text) rows ≡ lines_of text
  pub whole : All (IsRow text) rows
  pub some : 0 < length rows
  pub few : length rows ≤ TEXT_LIMIT + 1
