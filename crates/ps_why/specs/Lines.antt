-- Where a line of a text stands, and which part of it is shown.
use Rattle.std.specs.Prelude.{ℕ, suc, ◌-◌, ◌==◌, nat_le, nat_lt, min, max, Bool, ◌&&◌, if◌then◌else◌}
use Rattle.std.specs.Prelude.{Option, Some, None, List, [], ◌∷◌, drop, slice_index_or}
use Rattle.std.specs.List.{slice_split}
use Rattle.ps_model.specs.text.Lines.{is_line_feed, mark_length}
use Rattle.ps_why.specs.declared.lines.LineBytes.{LineBytes}
use Rattle.ps_why.specs.declared.lines.TheConstants.{MOST_BEFORE, MOST_SHOWN}
use Rattle.ps_why.specs.declared.marks.Marks.{Marks}

-- the byte goes on with a character that has begun before it
abbrev pub goes_on : ℕ → Bool
goes_on byte = nat_le 128 byte && nat_lt byte 192

-- the place of the first line feed of bytes of which the first has this place, or else their end
abbrev pub line_end : ℕ → List ℕ → ℕ
line_end place [] = place
line_end place (byte ∷ bytes) = if is_line_feed byte then place else line_end (suc place) bytes

-- the place after `feeds` line feeds of bytes of which the first has this place, or else their end
abbrev pub behind_feeds : ℕ → ℕ → List ℕ → ℕ
behind_feeds place feeds [] = place
behind_feeds place feeds (byte ∷ bytes) =
    if feeds == 0 then place else behind_feeds (suc place) (if is_line_feed byte then feeds - 1 else feeds) bytes

-- where the line of a number begins, from 1: after the line feeds before it, and after a byte order mark
abbrev pub line_start : List ℕ → ℕ → ℕ
line_start text line = let start = behind_feeds 0 (line - 1) text in if start == 0 then mark_length text else start

-- the bytes of that line, without its line feed
abbrev pub line_bytes : List ℕ → ℕ → LineBytes
line_bytes text line =
    record { from = line_start text line; to = line_end (line_start text line) (drop (line_start text line) text) }

-- the text of that line, which stands between two line feeds
abbrev pub line_text : List ℕ → ℕ → List ℕ
line_text text line =
    slice_index_or (slice_split is_line_feed (drop (mark_length text) text)) (line - 1) []

-- the place of the first byte with which a character begins, of bytes of which the first has this place, or their end
abbrev pub begins_from : ℕ → List ℕ → ℕ
begins_from place [] = place
begins_from place (byte ∷ bytes) = if goes_on byte then begins_from (suc place) bytes else place

-- where a line is shown from that the text ends with: from its front where that shows what is marked, else from a place
-- before the mark, not many bytes before its end
abbrev pub marked_from : List ℕ → LineBytes → ℕ → ℕ → ℕ
marked_from text line from to =
    let start = min (max (min from (to - MOST_BEFORE)) line.from) line.to in
    if nat_le (to - line.from) MOST_SHOWN then line.from else begins_from start (drop start text)

-- where a line is shown from: from its front, or else from a place that shows the first of the marks
abbrev pub shown_from : List ℕ → LineBytes → Option Marks → ℕ
shown_from text line None = line.from
shown_from text line (Some marks) = marked_from text line marks.mark.from marks.mark.to
