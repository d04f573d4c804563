-- Views whose rows have no orders: from the first byte on.
use Rattle.std.proofs.Common.{ℕ, ◌-◌, ◌==◌, true, false, cond, List, [], ◌∷◌, ◌++◌, length}
use Rattle.std.specs.Prelude.{Option, Some, None, ◌||◌}
use Rattle.std.proofs.lemmas.List.Elements.{All-nil, All-cons, All-append}
use Rattle.ps_view.specs.declared.line_kinds.LineKind.{LineKind}
use Rattle.ps_view.specs.declared.line_kinds.LineKind.TheVariants.{Title, Level, Message, Note, Question, LevelDone}
use Rattle.ps_view.specs.declared.line_kinds.LineKind.TheVariants.{Ending, Empty, Row}
use Rattle.ps_view.specs.declared.corners.Corner.{Corner}
use Rattle.ps_view.specs.declared.sizes.Size.{Size}
use Rattle.ps_view.specs.HarmlessTexts.{harmless_text}
use Rattle.ps_view.specs.LineKinds.{kind_of}
use Rattle.ps_view.specs.Rows.{cut, narrowed, shortened, wrapped}
use Rattle.ps_view.specs.RowShares.{has_lines, most_news}
use Rattle.ps_view.specs.Corners.{frame_part}
use Rattle.ps_view.specs.Games.{KnownGame}
use Rattle.ps_view.specs.Screens.{LinesBelow, level_line, keys_line, line_rows, news_rows, rows_below, screen_of}
use Rattle.ps_view.specs.Views.{View, Step, blank_view, corner_drawn, quietly, rows_left, drawn, with_news}
use Rattle.ps_view.specs.Views.{with_frame}
use Rattle.ps_view.specs.Views.{with_byte, go_on, text_of, line_told, byte_step, view_behind}
use Rattle.ps_view.specs.Views.{is_size, with_size, anew, size_step, told_step, piece_step}
use Rattle.ps_view.specs.Pieces.{Piece, view_behind_pieces}
use Rattle.ps_view.specs.Bounds.{IsHarmlessRow, AreHarmlessRows, ScreensAreHarmless, ScreensOfPiecesAreHarmless}
use Rattle.ps_view.proofs.HarmlessRows.{text_is_harmless, cut_is_harmless, wrapped_is_harmless, shortened_are_harmless}
use Rattle.ps_view.proofs.HarmlessRows.{narrowed_is_harmless, part_is_harmless}
use Rattle.ps_view.proofs.Such.{either}

-- a line below a frame
line_is_harmless : (columns : ℕ) (line : List ℕ) → IsHarmlessRow (cut columns (harmless_text line))
line_is_harmless columns line = cut_is_harmless columns (harmless_text line) (text_is_harmless line)

-- what is told last
news_are_harmless : (rows columns : ℕ) (news : List ℕ) → AreHarmlessRows (news_rows rows columns news)
news_are_harmless rows columns news =
    let text : List ℕ = harmless_text news in
    let most : ℕ = most_news rows in
    let all : List (List ℕ) = wrapped columns (narrowed columns text) in
    either AreHarmlessRows (most == 1) (cut columns text ∷ []) (shortened most all)
    (All-cons IsHarmlessRow (cut columns text) [] (line_is_harmless columns news) (All-nil IsHarmlessRow))
    (shortened_are_harmless most all
    (wrapped_is_harmless columns (narrowed columns text) (narrowed_is_harmless columns text (text_is_harmless news))))

lines_are_harmless : (columns : ℕ) (told : LinesBelow) → AreHarmlessRows (line_rows columns told)
lines_are_harmless columns told =
    let line : List ℕ → List ℕ = λ bytes. cut columns (harmless_text bytes) in
    let level : List ℕ = level_line told.level told.note in
    let keys : List ℕ = keys_line told.heard in
    All-cons IsHarmlessRow (line told.title) (line level ∷ line keys ∷ []) (line_is_harmless columns told.title)
    (All-cons IsHarmlessRow (line level) (line keys ∷ []) (line_is_harmless columns level)
    (All-cons IsHarmlessRow (line keys) [] (line_is_harmless columns keys) (All-nil IsHarmlessRow)))

below_is_harmless : (rows columns : ℕ) (told : LinesBelow) → AreHarmlessRows (rows_below rows columns told)
unfolding rows_below
below_is_harmless rows columns told =
    let lines : List (List ℕ) = line_rows columns told in
    let news : List (List ℕ) = news_rows rows columns told.news in
    either AreHarmlessRows (has_lines rows) (lines ++ news) (cond (length told.news == 0) [] news)
    (All-append IsHarmlessRow lines news (lines_are_harmless columns told) (news_are_harmless rows columns told.news))
    (either AreHarmlessRows (length told.news == 0) [] news (All-nil IsHarmlessRow)
    (news_are_harmless rows columns told.news))

-- a screen of a harmless frame
screen_is_harmless : (size : Size) (corner : Corner) (frame : List (List ℕ)) (told : LinesBelow) →
    AreHarmlessRows frame → AreHarmlessRows (screen_of size corner frame told)
screen_is_harmless size corner frame told are =
    let below : List (List ℕ) = rows_below size.rows size.columns told in
    All-append IsHarmlessRow (frame_part (size.rows - length below) size.columns corner frame) below
    (part_is_harmless (size.rows - length below) size.columns corner frame are) (below_is_harmless size.rows size.columns told)

-- a view whose rows have no orders
record IsHarmless (view : View) : Type 0 where
  frame : AreHarmlessRows view.frame
  begun : AreHarmlessRows view.begun
  screen : AreHarmlessRows view.screen

-- what is drawn of one is one
drawn_is_harmless : (view : View) → AreHarmlessRows view.frame → AreHarmlessRows view.begun →
    IsHarmless (drawn view).view
drawn_is_harmless view frame begun = record {
  frame = frame;
  begun = begun;
  screen = screen_is_harmless view.size (corner_drawn view (rows_left view)) view.frame view.told frame;
}

no_rows : AreHarmlessRows []
no_rows = All-nil IsHarmlessRow

-- a line further
line_keeps_harmless : (view : View) (kind : LineKind) → IsHarmless view → IsHarmless (line_told view kind).view
line_keeps_harmless view Title is = record { frame = is.frame; begun = is.begun; screen = is.screen }
line_keeps_harmless view Level is = record { frame = no_rows; begun = is.begun; screen = is.screen }
line_keeps_harmless view Message is = drawn_is_harmless (with_news view (view.line ++ go_on)) is.frame is.begun
line_keeps_harmless view Note is = record { frame = is.frame; begun = is.begun; screen = is.screen }
line_keeps_harmless view Question is = drawn_is_harmless (with_news view (text_of view.line)) is.frame is.begun
line_keeps_harmless view LevelDone is = record { frame = is.frame; begun = is.begun; screen = is.screen }
line_keeps_harmless view Ending is =
    let last = drawn_is_harmless (with_news view view.line) is.frame is.begun in
    record { frame = last.frame; begun = last.begun; screen = last.screen }
line_keeps_harmless view Empty is = drawn_is_harmless (with_frame view) is.begun no_rows
line_keeps_harmless view Row is = record {
  frame = is.frame;
  begun = All-append IsHarmlessRow view.begun (harmless_text view.line ∷ []) is.begun
      (All-cons IsHarmlessRow (harmless_text view.line) [] (text_is_harmless view.line) no_rows);
  screen = is.screen;
}

-- a byte further
byte_keeps_harmless : (view : View) (byte : ℕ) → IsHarmless view → IsHarmless (byte_step view byte).view
byte_keeps_harmless view byte is =
    let ended : Step = line_told view (kind_of view.line) in
    let gathered : Step = quietly (with_byte view byte) in
    elim view.is_over as (λ over. IsHarmless
    (let step : Step = elim over [
      | true ↦ quietly view
      | false ↦ elim (byte == 10) [
        | true ↦ ended
        | false ↦ gathered
      ]
    ] in step.view)) [
      | true ↦ is
      | false ↦ elim (byte == 10) as (λ ends. IsHarmless
          (let step : Step = elim ends [ true ↦ ended | false ↦ gathered ] in step.view)) [
            | true ↦ line_keeps_harmless view (kind_of view.line) is
            | false ↦ record { frame = is.frame; begun = is.begun; screen = is.screen }
          ]
    ]

bytes_keep_harmless : (view : View) (bytes : List ℕ) → IsHarmless view → IsHarmless (view_behind view bytes)
bytes_keep_harmless view [] is = is
bytes_keep_harmless view (byte ∷ bytes) is =
    bytes_keep_harmless (byte_step view byte).view bytes (byte_keeps_harmless view byte is)

none : (game : KnownGame) (size : Size) → IsHarmless (blank_view game size)
none game size = record { frame = no_rows; begun = no_rows; screen = no_rows }

pub screens_are_harmless : ScreensAreHarmless
screens_are_harmless game size output =
    (bytes_keep_harmless (blank_view game size) output (none game size)).screen

-- another size
anew_is_harmless : (view : View) (size : Size) → IsHarmless view → IsHarmless (anew view size).view
anew_is_harmless view size is =
    let there : View = with_size view size in
    elim view.is_open as (λ was_open. IsHarmless
    (let step : Step = elim was_open [ true ↦ drawn there | false ↦ quietly there ] in step.view)) [
      | true ↦ drawn_is_harmless there is.frame is.begun
      | false ↦ record { frame = is.frame; begun = is.begun; screen = no_rows }
    ]

size_keeps_harmless : (view : View) (size : Size) → IsHarmless view → IsHarmless (size_step view size).view
size_keeps_harmless view size is =
    elim (is_size view.size size || view.is_over) as (λ stays. IsHarmless
    (let step : Step = elim stays [ true ↦ quietly view | false ↦ anew view size ] in step.view)) [
      | true ↦ is
      | false ↦ anew_is_harmless view size is
    ]

told_keeps_harmless : (view : View) (told : Option Size) → IsHarmless view → IsHarmless (told_step view told).view
told_keeps_harmless view None is = is
told_keeps_harmless view (Some size) is = size_keeps_harmless view size is

pieces_keep_harmless : (view : View) (pieces : List Piece) → IsHarmless view →
    IsHarmless (view_behind_pieces view pieces)
pieces_keep_harmless view [] is = is
pieces_keep_harmless view (piece ∷ pieces) is =
    pieces_keep_harmless (piece_step view piece.told piece.bytes).view pieces
    (bytes_keep_harmless (told_step view piece.told).view piece.bytes (told_keeps_harmless view piece.told is))

pub screens_of_pieces_are_harmless : ScreensOfPiecesAreHarmless
screens_of_pieces_are_harmless game size pieces =
    (pieces_keep_harmless (blank_view game size) pieces (none game size)).screen
