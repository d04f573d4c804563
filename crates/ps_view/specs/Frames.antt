-- The frames that a view keeps: what their rows show, and what the code keeps with each row and with the last frame.
use Rattle.std.specs.Prelude.{◌≡◌, ◌<◌, ℕ, Option, List, [], All, map}
use Rattle.std.specs.Global.{Global}
use Rattle.std.specs.declared.rc.Rc.{Rc}
use Rattle.std.specs.Str.{bytes_eq}
use Rattle.ps_view.specs.Corners.{alike, cell_width}
use Rattle.ps_view.specs.Players.{first_player, player_place}
use Rattle.ps_view.specs.declared.corners.Cell.{Cell}
use Rattle.ps_view.specs.declared.frame_rows.FrameRow.{FrameRow}

-- the last whole frame, and the one that has begun, of a game in which these characters show the player
pub record Frames : Type 0 where
  pub players : List ℕ
  pub last : List (List ℕ)
  pub begun : List (List ℕ)

-- none yet
abbrev pub blank_frames : List ℕ → Frames
blank_frames players = record { players = players; last = []; begun = [] }

-- with another frame that has begun
abbrev pub with_begun : Frames → List (List ℕ) → Frames
with_begun frames begun = record frames { begun = begun }

-- with another last frame
abbrev pub with_last : Frames → List (List ℕ) → Frames
with_last frames last = record frames { last = last }

-- what rows show
abbrev pub texts_of : List (Rc FrameRow Global) → List (List ℕ)
texts_of rows = map (λ row. row.value.text) rows

-- it is known of each row where it shows the player first
abbrev pub AreRowsFor : List ℕ → List (Rc FrameRow Global) → Type 0
AreRowsFor players rows = All (λ row. row.value.player ≡ player_place players row.value.text) rows

-- it is known where the last frame shows the player first, how many columns each of its cells covers, one at least, and in how many of
-- its first rows the frame that has begun is like it
pub record AreKept (players : List ℕ) (last : List (Rc FrameRow Global)) (player : Option Cell) (width : ℕ)
    (begun : List (Rc FrameRow Global)) (first : ℕ) : Type 0 where
  pub last_rows : AreRowsFor players last
  pub begun_rows : AreRowsFor players begun
  pub seen : player ≡ first_player players (texts_of last)
  pub wide : width ≡ cell_width (texts_of last)
  pub some : 0 < width
  pub same : first ≡ alike bytes_eq (texts_of last) (texts_of begun)
