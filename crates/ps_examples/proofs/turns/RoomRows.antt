-- Rooms: which one is seen, and what a frame shows of it, on boards worked by hand.
use Rattle.std.proofs.Common.{◌≡◌, ℕ, List, [], ◌∷◌, ◌++◌, map, refl, Option, Some, None}
use Rattle.std.specs.Prelude.{codes}
use Rattle.std.specs.List.{flat_map}
use Rattle.std.specs.Str.{chars}
use Rattle.std.proofs.Math.Utf8.{encode}
use Rattle.ps_model.specs.declared.rooms.RoomSize.{RoomSize}
use Rattle.ps_model.specs.declared.rooms.Room.{Room}
use Rattle.ps_model.specs.declared.texts.Section.TheVariants.{Levels}
use Rattle.ps_model.specs.text.Lines.{lines_of}
use Rattle.ps_model.specs.text.Sections.{section_lines}
use Rattle.ps_model.specs.names.Names.{Names}
use Rattle.ps_model.specs.board.Grid.{Grid}
use Rattle.ps_model.specs.board.Levels.{loaded}
use Rattle.ps_model.specs.session.LevelLines.{Entry, MessageEntry, LevelEntry, entries_read}
use Rattle.ps_model.specs.session.Rooms.{frame_in, room_after, room_frame}
use Rattle.ps_examples.proofs.games.BaseText.{base_head}
use Rattle.ps_examples.proofs.names.NameTexts.{names_of_text}

abbrev names : Names
names = names_of_text base_head

abbrev sized : ℕ → ℕ → Option RoomSize
sized width height = Some (record { width = width; height = height })

abbrev room : ℕ → ℕ → Room
room x y = record { x = x; y = y }

-- the grid of a level, and those of rows that an empty line parts
abbrev grid_of : Entry → List Grid
grid_of (MessageEntry text) = []
grid_of (LevelEntry level) = loaded names level ∷ []

abbrev grids : List ℕ → List Grid
grids rows = flat_map grid_of (entries_read names (section_lines (lines_of (codes "LEVELS\n" ++ rows)) Levels))

-- the rooms that are seen on these grids, and their frames, where the last frame showed a room
abbrev seen : Option RoomSize → Room → List ℕ → List Room
seen size last rows = map (λ g. room_after size names g last) (grids rows)

abbrev shown : Option RoomSize → Room → List ℕ → List (List ℕ)
shown size last rows = map (λ g. room_frame size names g last) (grids rows)

-- rooms of three columns and one row: the second one ends with the board
first_room : shown (sized 3 1) (room 0 0) (codes "P..O#\n") ≡ codes "P..\n\n" ∷ []
unfolding chars encode
first_room = refl

second_room : shown (sized 3 1) (room 0 0) (codes "...P#\n") ≡ codes "P#\n\n" ∷ []
unfolding chars encode
second_room = refl

last_of_a_room : seen (sized 3 1) (room 0 0) (codes "..P.#\n\n...P#\n") ≡ room 0 0 ∷ room 1 0 ∷ []
unfolding chars encode
last_of_a_room = refl

-- rooms of two columns and two rows on a board of five columns and three rows
lower_edge : shown (sized 2 2) (room 0 0) (codes ".....\n....#\nOP#..\n") ≡ codes "OP\n\n" ∷ []
unfolding chars encode
lower_edge = refl

right_edge : shown (sized 2 2) (room 0 0) (codes ".....\n...#P\nO.#..\n") ≡ codes ".\nP\n\n" ∷ []
unfolding chars encode
right_edge = refl

corner : shown (sized 2 2) (room 0 0) (codes "#####\n#####\n####P\n") ≡ codes "P\n\n" ∷ []
unfolding chars encode
corner = refl

middle : shown (sized 2 2) (room 0 0) (codes ".....\n..#P.\nO....\n") ≡ codes "..\n#P\n\n" ∷ []
unfolding chars encode
middle = refl

-- of several Players the leftmost one counts, and of those in a column the topmost
leftmost : seen (sized 2 1) (room 0 0) (codes "..P.\nP...\n") ≡ room 0 1 ∷ []
unfolding chars encode
leftmost = refl

topmost : seen (sized 2 1) (room 0 0) (codes "...P\n..PP\n..P.\n") ≡ room 1 1 ∷ []
unfolding chars encode
topmost = refl

-- without a Player the room stays
none_seen : shown (sized 2 1) (room 1 0) (codes "..O#\n") ≡ codes "O#\n\n" ∷ []
unfolding chars encode
none_seen = refl

none_seen_first : shown (sized 2 1) (room 0 0) (codes "..O#\n") ≡ codes "..\n\n" ∷ []
unfolding chars encode
none_seen_first = refl

-- without a size, and with one that is larger than the board, the whole board is shown
no_rooms : shown None (room 0 0) (codes "...P#\nO...#\n") ≡ codes "...P#\nO...#\n\n" ∷ []
unfolding chars encode
no_rooms = refl

large_rooms : shown (sized 256 256) (room 0 0) (codes "...P#\nO...#\n") ≡ codes "...P#\nO...#\n\n" ∷ []
unfolding chars encode
large_rooms = refl

-- of a room beyond the board nothing is shown: neither cells, where it lies to the right, nor rows, where it lies below
beyond : map (λ g. frame_in (sized 3 1) names g (room 2 0)) (grids (codes "P..O#\n")) ≡ codes "\n\n" ∷ []
unfolding chars encode
beyond = refl

below : map (λ g. frame_in (sized 3 1) names g (room 0 1)) (grids (codes "P..O#\n")) ≡ codes "\n" ∷ []
unfolding chars encode
below = refl
