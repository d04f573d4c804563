-- A line of a text as it is shown, with marks below it.
use Rattle.std.specs.Prelude.{ℕ, suc, ◌-◌, ◌==◌, nat_le, Bool, if◌then◌else◌, Option, Some, None}
use Rattle.std.specs.Prelude.{List, [], ◌∷◌, ◌++◌, length, slice_range, take, codes}
use Rattle.std.specs.List.{repeat}
use Rattle.std.specs.Fmt.{decimal}
use Rattle.std.specs.Str.Lossy.{utf8_valid_len}
use Rattle.ps_why.specs.declared.lines.TheConstants.{MOST_SHOWN}
use Rattle.ps_why.specs.declared.marks.Marks.{Marks}
use Rattle.ps_why.specs.Lines.{goes_on, line_bytes, shown_from}
use Rattle.ps_why.specs.Marks.{have}
use Rattle.ps_why.specs.Shown.{shown_text}

-- a line's number, at the right of six columns, with two blanks after it
abbrev pub number_shown : ℕ → List ℕ
number_shown line = repeat (6 - length (decimal line)) (codes " ") ++ (decimal line ++ codes "  ")

-- the longest front of bytes that is UTF-8
abbrev pub valid_front : List ℕ → List ℕ
valid_front bytes = take (utf8_valid_len bytes) bytes

-- bytes of a line, after two points where they aren't its front, and a line feed
abbrev pub front_shown : List ℕ → Bool → List ℕ
front_shown line is_front = (if is_front then [] else codes "..") ++ (shown_text (valid_front line) ++ 10 ∷ [])

-- below a byte that begins a character: a caret where it is marked, else a blank as wide as it
abbrev pub caret : ℕ → Bool → List ℕ
caret byte is_marked =
    if goes_on byte then [] else (if is_marked then 94 else (if byte == 9 then 9 else 32)) ∷ []

-- below bytes of which the first has this place, up to the end of the first mark
abbrev pub carets : Marks → ℕ → List ℕ → List ℕ
carets marks place [] = []
carets marks place (byte ∷ bytes) =
    if nat_le marks.mark.to place then [] else caret byte (have marks place) ++ carets marks (suc place) bytes

-- the marks' own line, where there are some: below the number, the blanks and the points stand blanks
abbrev pub marks_shown : List ℕ → ℕ → Bool → Option Marks → List ℕ
marks_shown line start is_front None = []
marks_shown line start is_front (Some marks) =
    (if is_front then codes "        " else codes "          ") ++ (carets marks start line ++ 10 ∷ [])

-- bytes of a line from a place on, as they are shown, up to a limit
abbrev pub part_shown : List ℕ → ℕ → Bool → Option Marks → List ℕ
part_shown line start is_front marks = front_shown line is_front ++ marks_shown line start is_front marks

-- a line of a text after its number, and below it the marks
abbrev pub line_shown : List ℕ → ℕ → Option Marks → List ℕ
line_shown text line marks =
    let bytes = line_bytes text line in
    let start = shown_from (take bytes.to text) bytes marks in
    number_shown line
    ++ part_shown (take MOST_SHOWN (slice_range text start bytes.to)) start (start == bytes.from) marks
