-- The view of a run: what a terminal of some size is handed for the bytes of the run's output. Bytes are gathered until
-- a line feed ends their line; then the line is told. A whole frame, a message, a question and the ending are drawn at
-- once, by the rows that they change; the title, the level and a note with what comes next. Where the terminal has another size, all is
-- drawn anew.
use Rattle.std.specs.Prelude.{ℕ, ◌-◌, ◌==◌, Bool, true, false, ◌&&◌, ◌||◌, Option, Some, None, List, [], ◌∷◌, ◌++◌}
use Rattle.std.specs.Prelude.{length, drop, codes}
use Rattle.ps_view.specs.declared.corners.Cell.{Cell}
use Rattle.ps_view.specs.declared.corners.Corner.{Corner}
use Rattle.ps_view.specs.declared.sizes.Size.{Size}
use Rattle.ps_view.specs.declared.line_kinds.LineKind.{LineKind}
use Rattle.ps_view.specs.declared.line_kinds.LineKind.TheVariants.{Title, Level, Message, Note, Question, LevelDone}
use Rattle.ps_view.specs.declared.line_kinds.LineKind.TheVariants.{Ending, Empty, Row}
use Rattle.ps_view.specs.HarmlessTexts.{harmless_text}
use Rattle.ps_view.specs.LineKinds.{kind_of}
use Rattle.ps_view.specs.Orders.{opening_orders, at_row, closing_orders}
use Rattle.ps_view.specs.Corners.{corner_following, first_changed, changed_behind}
use Rattle.ps_view.specs.Games.{KnownGame}
use Rattle.ps_view.specs.RowShares.{frame_rows}
use Rattle.ps_view.specs.Screens.{LinesBelow, rows_below, screen_of, changes}
use Rattle.ps_view.specs.ToldLines.{at_level, last_told, noted, nothing_told, titled}

-- a view: what it knows of the game; the size of the terminal; what is told beside the board; the rows of the last whole frame, as characters,
-- the corner of the part of it that is shown, the cell that changed last, and the rows of the frame that has begun; the
-- bytes of the line that has begun; what the rows of the terminal show; whether anything was drawn yet; and whether the
-- ending was
pub record View : Type 0 where
  pub game : KnownGame
  pub size : Size
  pub told : LinesBelow
  pub frame : List (List ℕ)
  pub corner : Corner
  pub changed : Cell
  pub begun : List (List ℕ)
  pub line : List ℕ
  pub screen : List (List ℕ)
  pub is_open : Bool
  pub is_over : Bool

-- a view, and what the terminal is handed on the way to it
pub record Step : Type 0 where
  pub view : View
  pub bytes : List ℕ

-- the upper left corner of a frame
abbrev pub first_corner : Corner
first_corner = record { top = 0; left = 0 }

-- its first cell
abbrev pub first_cell : Cell
first_cell = record { row = 0; column = 0 }

-- a view of a game before the first byte
abbrev pub blank_view : KnownGame → Size → View
blank_view game size = record {
  game = game;
  size = size;
  told = nothing_told game.heard;
  frame = [];
  corner = first_corner;
  changed = first_cell;
  begun = [];
  line = [];
  screen = [];
  is_open = false;
  is_over = false;
}

-- drawing -------------------------------------------------------------------------------------------------------------

-- nothing is drawn
abbrev pub quietly : View → Step
quietly view = record { view = view; bytes = [] }

-- what comes before the first row that is drawn
abbrev pub opening : Bool → List ℕ
opening true = []
opening false = opening_orders

-- the view with another screen
abbrev pub with_screen : View → List (List ℕ) → View
with_screen view screen = record view { screen = screen; is_open = true }

-- how many rows are left to the frame
abbrev pub rows_left : View → ℕ
rows_left view = view.size.rows - length (rows_below view.size.rows view.size.columns view.told)

-- the corner of the part that is drawn: that of the view, or as near to it as keeps the player in view in the rows that are
-- left, where what is told last takes more than one
abbrev pub corner_drawn : View → ℕ → Corner
corner_drawn view rows =
    corner_following view.game.players rows view.size.columns view.corner view.frame view.changed

-- what the rows of the terminal show then
abbrev pub screen_drawn : View → List (List ℕ)
screen_drawn view = screen_of view.size (corner_drawn view (rows_left view)) view.frame view.told

-- the rows that the view changes are drawn
abbrev pub drawn : View → Step
drawn view = let screen : List (List ℕ) = screen_drawn view in record {
  view = with_screen view screen;
  bytes = opening view.is_open ++ changes view.screen screen;
}

-- the terminal is left: the cursor goes below what is drawn, and is shown
abbrev pub left : Step → Step
left step = record {
  view = let view : View = step.view in record view { is_over = true };
  bytes = step.bytes ++ (at_row (length step.view.screen) ++ closing_orders);
}

-- lines ---------------------------------------------------------------------------------------------------------------

-- the view with another title, on the way to the next line
abbrev pub with_title : View → List ℕ → View
with_title view title = record view {
  told = titled view.told title;
  line = [];
}

-- the view with another level, of which no frame has come yet
abbrev pub with_level : View → List ℕ → View
with_level view level = record view {
  told = at_level view.told level;
  frame = [];
  corner = first_corner;
  changed = first_cell;
  line = [];
}

-- the view with another note
abbrev pub with_note : View → List ℕ → View
with_note view note = record view { told = noted view.told note; line = [] }

-- the view with other news
abbrev pub with_news : View → List ℕ → View
with_news view news = record view {
  told = last_told view.told news;
  line = [];
}

-- the corner of a frame of the view, where nothing is told last
abbrev pub corner_in : View → Size → List (List ℕ) → Cell → Corner
corner_in view size frame changed =
    corner_following view.game.players (frame_rows size) size.columns view.corner frame changed

-- the cell that changed last, once the frame that has begun is shown
abbrev pub changed_then : View → Cell
changed_then view = changed_behind view.changed (length view.begun) (first_changed view.frame view.begun)

-- the view with the frame that has begun in place of the last one; what was told last is gone past
abbrev pub with_frame : View → View
with_frame view = record view {
  told = last_told view.told [];
  frame = view.begun;
  corner = corner_in view view.size view.begun (changed_then view);
  changed = changed_then view;
  begun = [];
  line = [];
}

-- the view with one row more of the frame that has begun
abbrev pub with_row : View → List ℕ → View
with_row view row = record view { begun = view.begun ++ harmless_text row ∷ []; line = [] }

-- the text of a line, without the mark that says what it is
abbrev pub text_of : List ℕ → List ℕ
text_of line = drop 2 line

-- the view on the way to the next line
abbrev pub with_next_line : View → View
with_next_line view = record view { line = [] }

-- what stands behind a message until it is gone past: the key that goes past it
abbrev pub go_on : List ℕ
go_on = codes " [x]"

-- a line that has ended, by what it is. A row of a frame waits for the empty line that ends the frame; the title, the
-- level and a note wait for what is drawn next. That a level is done isn't shown: what comes next is told in the same
-- text. What is drawn after a message or a question takes its place
abbrev pub line_told : View → LineKind → Step
line_told view Title = quietly (with_title view view.line)
line_told view Level = quietly (with_level view view.line)
line_told view Message = drawn (with_news view (view.line ++ go_on))
line_told view Note = quietly (with_note view (text_of view.line))
line_told view Question = drawn (with_news view (text_of view.line))
line_told view LevelDone = quietly (with_next_line view)
line_told view Ending = left (drawn (with_news view view.line))
line_told view Empty = drawn (with_frame view)
line_told view Row = quietly (with_row view view.line)

-- bytes ---------------------------------------------------------------------------------------------------------------

-- the view with more bytes in its line
abbrev pub with_bytes : View → List ℕ → View
with_bytes view bytes = record view { line = view.line ++ bytes }

-- the view with one byte more in its line
abbrev pub with_byte : View → ℕ → View
with_byte view byte = with_bytes view (byte ∷ [])

-- a byte of the output; behind the ending none is heard
abbrev pub byte_step : View → ℕ → Step
byte_step view byte = elim view.is_over [
  | true ↦ quietly view
  | false ↦ elim (byte == 10) [
    | true ↦ line_told view (kind_of view.line)
    | false ↦ quietly (with_byte view byte)
  ]
]

-- the view behind bytes of the output
abbrev pub view_behind : View → List ℕ → View
view_behind view [] = view
view_behind view (byte ∷ bytes) = view_behind (byte_step view byte).view bytes

-- what the terminal is handed for bytes of the output
abbrev pub handed_on : View → List ℕ → List ℕ
handed_on view [] = []
handed_on view (byte ∷ bytes) =
    let step : Step = byte_step view byte in step.bytes ++ handed_on step.view bytes

-- what a terminal of that size is handed for the output of a game
abbrev pub view_of : KnownGame → Size → List ℕ → List ℕ
view_of game size output = handed_on (blank_view game size) output

-- sizes ---------------------------------------------------------------------------------------------------------------

-- so many rows and so many columns are those
abbrev pub is_size : Size → Size → Bool
is_size size other = size.rows == other.rows && size.columns == other.columns

-- the view for a terminal of that size, of which nothing is drawn: the part of the frame moves there too
abbrev pub with_size : View → Size → View
with_size view size = record view {
  size = size;
  corner = corner_in view size view.frame view.changed;
  screen = [];
  is_open = false;
}

-- the terminal has another size: all that was drawn is drawn anew
abbrev pub anew : View → Size → Step
anew view size = elim view.is_open [
  | true ↦ drawn (with_size view size)
  | false ↦ quietly (with_size view size)
]

-- the terminal has that size; behind the ending none is heard
abbrev pub size_step : View → Size → Step
size_step view size = elim (is_size view.size size || view.is_over) [
  | true ↦ quietly view
  | false ↦ anew view size
]

-- a size that is told, or none
abbrev pub told_step : View → Option Size → Step
told_step view None = quietly view
told_step view (Some size) = size_step view size

-- a piece of the output, before which a size is told, or none
abbrev pub piece_step : View → Option Size → List ℕ → Step
piece_step view told bytes =
    let step : Step = told_step view told in record {
      view = view_behind step.view bytes;
      bytes = step.bytes ++ handed_on step.view bytes;
    }
