-- What the rows of a terminal show: the last frame at the top, and below it a line each for the title, the level and
-- the keys, if there is room for them, and what is told last.
use Rattle.std.specs.Prelude.{ℕ, suc, ◌-◌, ◌==◌, Bool, max, if◌then◌else◌, List, [], ◌∷◌, ◌++◌, length, codes}
use Rattle.std.specs.Prelude.{encode_utf8}
use Rattle.std.specs.List.{flat_map, range_with_len}
use Rattle.std.specs.Str.{bytes_eq}
use Rattle.ps_view.specs.declared.corners.Corner.{Corner}
use Rattle.ps_view.specs.declared.heard_keys.HeardKeys.{HeardKeys}
use Rattle.ps_view.specs.declared.sizes.Size.{Size}
use Rattle.ps_view.specs.HarmlessTexts.{harmless_text}
use Rattle.ps_view.specs.RowShares.{has_lines, most_news}
use Rattle.ps_view.specs.Rows.{cut, narrowed, wrapped, shortened}
use Rattle.ps_view.specs.Corners.{frame_part, row_in}
use Rattle.ps_view.specs.Orders.{drawn_row}

-- what is told beside the board: the line of the title, that of the level, a note on the level, the keys that the game
-- heeds, and the last of all other lines. Each is empty until it comes
pub record LinesBelow : Type 0 where
  pub title : List ℕ
  pub level : List ℕ
  pub note : List ℕ
  pub heard : HeardKeys
  pub news : List ℕ

-- the line of the level, and two blanks after it the note, if there is one
abbrev pub level_line : List ℕ → List ℕ → List ℕ
level_line level note = if length note == 0 then level else (level ++ codes "  ") ++ note

-- what a key does, where the game heeds it
abbrev pub told_key : Bool → List ℕ → List ℕ
told_key is_heard words = if is_heard then words else []

-- what the keys do that a game heeds
abbrev pub keys_line : HeardKeys → List ℕ
keys_line heard =
    (((codes "w a s d move" ++ told_key heard.acts (codes ", x act")) ++ told_key heard.undoes (codes ", z undo"))
    ++ told_key heard.restarts (codes ", r restart")) ++ codes ", q quit"

-- the rows of the lines of the title, the level and the keys
abbrev pub line_rows : ℕ → LinesBelow → List (List ℕ)
line_rows columns told =
    cut columns (harmless_text told.title) ∷ cut columns (harmless_text (level_line told.level told.note))
    ∷ cut columns (harmless_text (keys_line told.heard)) ∷ []

-- the rows of what is told last, on a terminal of so many rows and columns: it goes on in the next row, if it may take more
-- than one
abbrev pub news_rows : ℕ → ℕ → List ℕ → List (List ℕ)
news_rows rows columns news = let text : List ℕ = harmless_text news in
    if most_news rows == 1 then cut columns text ∷ []
    else shortened (most_news rows) (wrapped columns (narrowed columns text))

-- the rows below a frame: the lines, and what is told last; where there is no room for the lines, that alone, if there is
-- any
unfoldable pub rows_below : ℕ → ℕ → LinesBelow → List (List ℕ)
rows_below rows columns told =
    if has_lines rows then line_rows columns told ++ news_rows rows columns told.news
    else (if length told.news == 0 then [] else news_rows rows columns told.news)

-- the rows of a terminal from the top, as far as they show something
abbrev pub screen_of : Size → Corner → List (List ℕ) → LinesBelow → List (List ℕ)
screen_of size corner frame told =
    let below : List (List ℕ) = rows_below size.rows size.columns told in
    frame_part (size.rows - length below) size.columns corner frame ++ below

-- a row is drawn where it shows something else than before
abbrev pub row_change : List (List ℕ) → List (List ℕ) → ℕ → List ℕ
row_change before screen place =
    if bytes_eq (row_in before place) (row_in screen place) then []
    else drawn_row (suc place) (flat_map encode_utf8 (row_in screen place))

-- what makes one screen of another: the rows that show something else, from the top
abbrev pub changes : List (List ℕ) → List (List ℕ) → List ℕ
changes before screen = flat_map (row_change before screen) (range_with_len 0 (max (length before) (length screen)))
