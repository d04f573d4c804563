-- The part of a frame that is shown where the frame is larger than the terminal has room for. It is known by its
-- upper left corner. It follows the player, and keeps it away from the edges; where no cell shows the player, it moves
-- by as little as shows the first cell that changed. At each edge a mark says that there is more.
use Rattle.std.specs.Prelude.{ℕ, suc, ◌+◌, ◌-◌, ◌*◌, ◌/◌, ◌==◌, nat_eq, nat_lt, nat_le, Bool, true, false}
use Rattle.std.specs.Prelude.{if◌then◌else◌, Some, None}
use Rattle.std.specs.Prelude.{List, [], ◌∷◌, ◌++◌, length, take, drop, map, fold, max, min, slice_index_or}
use Rattle.std.specs.Prelude.{replicate}
use Rattle.std.specs.List.{flat_map}
use Rattle.std.specs.Str.{bytes_eq}
use Rattle.ps_view.specs.declared.corners.Cell.{Cell}
use Rattle.ps_view.specs.declared.corners.Corner.{Corner}
use Rattle.ps_view.specs.HarmlessTexts.{columns_of}
use Rattle.ps_view.specs.Players.{first_player}
use Rattle.ps_view.specs.Rows.{more_mark}

-- what a part shows ---------------------------------------------------------------------------------------------------

-- at an edge a mark where there is more, and else nothing
abbrev pub edge : {A : Type 0} → A → A → Bool → A
edge mark blank more = if more then mark else blank

-- how many items so much room shows of a list that is longer: two are edges, where there is room for more than two
abbrev pub shown_in : ℕ → ℕ
shown_in room = if nat_lt room 3 then room else room - 2

-- what so much room shows of a list: all; or where there isn't room for all, those from a place on, between two edges if
-- there is room for them
abbrev pub part_from : {A : Type 0} → ℕ → ℕ → A → A → List A → List A
part_from room place mark blank items =
    if nat_le (length items) room then items
    else (if nat_lt room 3 then take room (drop place items)
    else (edge mark blank (nat_lt 0 place) ∷ take (room - 2) (drop place items))
    ++ edge mark blank (nat_lt (place + (room - 2)) (length items)) ∷ [])

-- how many columns the widest character of a row covers, so many at least
abbrev pub widest : ℕ → List ℕ → ℕ
widest least row = fold (λ columns character. max columns (columns_of character)) least row

-- how many columns the widest character of a frame covers, one at least
abbrev pub cell_width : List (List ℕ) → ℕ
cell_width frame = fold widest 1 frame

-- how many characters of a frame's row so many columns have room for
abbrev pub room_across : ℕ → List (List ℕ) → ℕ
room_across columns frame = columns / cell_width frame

-- a character in a cell of so many columns: blanks stand after one that covers fewer. One that covers none counts as one
abbrev pub in_cell : ℕ → ℕ → List ℕ
in_cell width character = character ∷ replicate (width - max 1 (columns_of character)) 32

-- characters in cells of so many columns
abbrev pub lined_up : ℕ → List ℕ → List ℕ
lined_up width characters = flat_map (in_cell width) characters

-- what is shown of a row in cells of so many columns, where so many have room: its characters from a place on
abbrev pub row_part : ℕ → ℕ → ℕ → List ℕ → List ℕ
row_part width room left row = lined_up width (part_from room left more_mark 32 row)

-- what so many rows of so many columns show of a frame: the part at a corner, where it isn't whole. Each cell covers as
-- many columns as the widest character of the frame
abbrev pub frame_part : ℕ → ℕ → Corner → List (List ℕ) → List (List ℕ)
frame_part rows columns corner frame =
    map (row_part (cell_width frame) (room_across columns frame) corner.left)
    (part_from rows corner.top (more_mark ∷ []) [] frame)

-- where a part moves --------------------------------------------------------------------------------------------------

-- in how many of their first items two lists are alike
abbrev pub alike : {A : Type 0} → (A → A → Bool) → List A → List A → ℕ
alike same [] second = 0
alike same (item ∷ first) [] = 0
alike same (item ∷ first) (other ∷ second) = elim (same item other) [
  | true ↦ suc (alike same first second)
  | false ↦ 0
]

-- where a part that begins at a place, of so many items, begins then, so that it shows the item at another place: as
-- near as may be
abbrev pub moved : ℕ → ℕ → ℕ → ℕ
moved size place shown =
    if nat_lt shown place then shown else (if nat_lt (shown - place) size then place else shown - (size - 1))

-- the same for a list of so many items in so much room
abbrev pub moved_in : ℕ → ℕ → ℕ → ℕ → ℕ
moved_in room count place shown = let size : ℕ = shown_in room in moved size (min place (count - size)) shown

-- the same where the part keeps that item away from its edges by a quarter of what it shows, or as near to that as the
-- list's own ends allow
abbrev pub kept_in : ℕ → ℕ → ℕ → ℕ → ℕ
kept_in room count place shown =
    let size : ℕ = shown_in room in
    let margin : ℕ = size / 4 in
    min (moved (size - 2 * margin) (min place (count - size) + margin) shown - margin) (count - size)

-- the row of a frame, from 0
abbrev pub row_in : List (List ℕ) → ℕ → List ℕ
row_in frame place = slice_index_or frame place []

-- where the part of a frame that began at a corner begins then, in so many rows of so many columns, so that it shows a
-- cell
abbrev pub corner_showing : ℕ → ℕ → Corner → List (List ℕ) → Cell → Corner
corner_showing rows columns corner frame cell = record {
  top = moved_in rows (length frame) corner.top cell.row;
  left = moved_in (room_across columns frame) (length (row_in frame cell.row)) corner.left cell.column;
}

-- the same where it keeps the cell away from its edges
abbrev pub corner_keeping : ℕ → ℕ → Corner → List (List ℕ) → Cell → Corner
corner_keeping rows columns corner frame cell = record {
  top = kept_in rows (length frame) corner.top cell.row;
  left = kept_in (room_across columns frame) (length (row_in frame cell.row)) corner.left cell.column;
}

-- where the part of a frame is that keeps the player in view; where no cell shows the player, it shows the cell that
-- changed last
abbrev pub corner_following : List ℕ → ℕ → ℕ → Corner → List (List ℕ) → Cell → Corner
corner_following players rows columns corner frame changed = elim (first_player players frame) [
  | Some cell ↦ corner_keeping rows columns corner frame cell
  | None ↦ corner_showing rows columns corner frame changed
]

-- the first cell of a frame that isn't as it was in another one; below the last row where each row is
abbrev pub first_changed : List (List ℕ) → List (List ℕ) → Cell
first_changed before frame =
    let row : ℕ = alike bytes_eq before frame in record {
      row = row;
      column = alike nat_eq (row_in before row) (row_in frame row);
    }

-- the cell that changed last, where that one did in a frame of so many rows, if one did
abbrev pub changed_behind : Cell → ℕ → Cell → Cell
changed_behind last rows changed = if changed.row == rows then last else changed
