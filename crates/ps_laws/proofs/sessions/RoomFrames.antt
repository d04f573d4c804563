-- Frames of rooms that show the whole board, and rooms that are seen.
use Rattle.std.proofs.Common.{◌≡◌, ◌∙◌, ℕ, ◌+◌, ◌-◌, ◌*◌, ◌/◌, ◌%◌, ◌<◌, ◌≤◌, suc, zero, Bool, true, false, cond, List}
use Rattle.std.proofs.Common.{Option, Some, None, mod-lt, refl, sym, ap, ap₂, arith}
use Rattle.std.specs.Prelude.{find, min, option_map, unwrap_or}
use Rattle.std.specs.List.{range_with_len}
use Rattle.std.proofs.lemmas.Nat.{div_below, div-add-mod'}
use Rattle.ps_model.specs.declared.rooms.RoomSize.{RoomSize}
use Rattle.ps_model.specs.declared.rooms.Room.{Room}
use Rattle.ps_model.specs.declared.rooms.Window.{Window}
use Rattle.ps_model.specs.names.Names.{Names}
use Rattle.ps_model.specs.board.Grid.{Grid, cell_at, cell_count}
use Rattle.ps_model.specs.board.Turns.{Script, has_player}
use Rattle.ps_model.specs.session.Frames.{frame}
use Rattle.ps_model.specs.session.RoomSizes.{IsRoomSize}
use Rattle.ps_model.specs.session.Rooms.{first_player_cell, frame_in, room_after, room_at, room_of_cell, room_seen}
use Rattle.ps_model.specs.session.Rooms.{room_window, room_frame, part_length, part_start, whole_board, window_frame}
use Rattle.ps_model.specs.session.Sessions.{Play, seen, shown}
use Rattle.ps_model.specs.session.StartSteps.{first_room}
use Rattle.ps_laws.specs.RoomFrames.{IsIn, WholeBoardsHaveFrames, FramesWithoutRooms, FramesOfLargeRooms}
use Rattle.ps_laws.specs.RoomFrames.{SeenRoomsShowPlayers, SessionsWithoutRooms, SeenRoomsStay}

pub whole_boards : WholeBoardsHaveFrames
whole_boards names g = refl

pub without_rooms : FramesWithoutRooms
without_rooms names g last = refl

-- large rooms ---------------------------------------------------------------------------------------------------------

-- what is found in a range is in it
found_by : (test : ℕ → Bool) (a n k : ℕ) (here : Bool) → test a ≡ here → find test (range_with_len a n) ≡ Some k →
    k < a + n
found_by test a zero k here e is = absurd (cc)
found_by test a (suc n) k true e is =
    let same : Some a ≡ Some k = ap (λ (b : Bool). cond b (Some a) (find test (range_with_len (a + 1) n))) (sym e)
    ∙ is in
    let at : a ≡ k = cc in
    omega (arith, at)
found_by test a (suc n) k false e is =
    let low : k < a + 1 + n =
    found_by test (a + 1) n k (test (a + 1)) refl
    (ap (λ (b : Bool). cond b (Some a) (find test (range_with_len (a + 1) n))) (sym e) ∙ is) in
    omega (arith, low)

player_on_board : (names : Names) (g : Grid) (cell : ℕ) → first_player_cell names g ≡ Some cell → cell < cell_count g
player_on_board names g cell is =
    let low : cell < 0 + cell_count g = found_by (λ n.
    has_player names (cell_at g n)) 0 (cell_count g) cell (has_player names (cell_at g 0)) refl is in
    omega (arith, low)

-- a number below the size is in the first part
in_first : (n size : ℕ) → n < size → n / size ≡ 0
in_first n size low =
    let less : n / size < 1 = div_below n size 1 (omega (arith, low)) (omega (arith, low)) in
    omega (arith, less)

large_by : (size : RoomSize) (g : Grid) (found : Option ℕ) → 0 < g.height → g.width ≤ size.width →
    g.height ≤ size.height → ((cell : ℕ) → found ≡ Some cell → cell < cell_count g) →
    unwrap_or (option_map (room_of_cell size g.height) found) first_room ≡ first_room
large_by size g None some wide high within = refl
large_by size g (Some cell) some wide high within =
    let column : cell / g.height < g.width = div_below cell g.height g.width some (within cell refl) in
    let row : cell % g.height < g.height = mod-lt cell some in
    ap₂ (λ (x y : ℕ). let room : Room = record { x = x; y = y } in room)
    (in_first (cell / g.height) size.width (omega (arith, column, wide)))
    (in_first (cell % g.height) size.height (omega (arith, row, high)))

first_part : (side size : ℕ) → side ≤ size → (part_start side size 0 ≡ 0) × (part_length side size 0 ≡ side)
first_part side size large = (omega arith, omega (arith, large))

pub large_rooms : FramesOfLargeRooms
large_rooms names size g some wide high =
    let across = first_part g.width size.width wide in
    let down = first_part g.height size.height high in
    ap (λ (room : Room). window_frame names g (room_window size room g))
    (large_by size g (first_player_cell names g) some wide high (λ cell is. player_on_board names g cell is))
    ∙ ap₂ (λ (a b : ℕ). let window : Window = record {
      first_column = a;
      columns = b;
      first_row =
          part_start g.height size.height 0;
      rows = part_length g.height size.height 0;
    } in window_frame names g window)
    across.0 across.1
    ∙ ap₂ (λ (a b : ℕ). let window : Window = record {
      first_column = 0;
      columns = g.width;
      first_row = a;
      rows =
          b;
    } in window_frame names g window) down.0 down.1

-- rooms that are seen -------------------------------------------------------------------------------------------------

-- the part that a number of a side is in
in_part : (side size n : ℕ) → 0 < size → n < side →
    (part_start side size (n / size) ≤ n) × (n < part_start side size (n / size) + part_length side size (n / size))
in_part side size n some low =
    let split : n / size * size + n % size ≡ n = div-add-mod' n size in
    let rest : n % size < size = mod-lt n some in
    (omega (arith, split), omega (arith, split, rest, low))

seen_in : (size : RoomSize) (g : Grid) (cell : ℕ) → 0 < g.height → IsRoomSize size → cell < cell_count g →
    IsIn (room_window size (room_of_cell size g.height cell) g) (cell / g.height) (cell % g.height)
seen_in size g cell some sized within =
    let across = in_part g.width size.width (cell / g.height) sized.some_column
    (div_below cell g.height g.width some within) in
    let down = in_part g.height size.height (cell % g.height) sized.some_row (mod-lt cell some) in
    record { right = across.0; left = across.1; below = down.0; above = down.1 }

pub seen_rooms : SeenRoomsShowPlayers
seen_rooms names size g last cell some sized is =
    let room : room_seen names size g last ≡ room_of_cell size g.height cell =
    ap (λ (found : Option ℕ). unwrap_or (option_map (room_of_cell size g.height) found) last) is in
    rw room (seen_in size g cell some sized (player_on_board names g cell is))

-- sessions ------------------------------------------------------------------------------------------------------------

-- the level with another room
abbrev in_room : Play → Room → Play
in_room play room = record {
  entry = play.entry;
  board = play.board;
  history = play.history;
  restart_board =
      play.restart_board;
  room = room;
}

pub sessions_without_rooms : SessionsWithoutRooms
sessions_without_rooms script play none = (
  ap (λ (size : Option RoomSize). frame_in size script.names play.board play.room) none,
  ap (λ (size : Option RoomSize). in_room play (room_after size script.names play.board play.room)) none,
)

-- a room that is found is found again, and one that isn't stays
same_room : (size : RoomSize) (height : ℕ) (found : Option ℕ) (last : Room) →
    unwrap_or (option_map (room_of_cell size height) found)
    (unwrap_or (option_map (room_of_cell size height) found) last) ≡ unwrap_or
    (option_map (room_of_cell size height) found) last
same_room size height None last = refl
same_room size height (Some cell) last = refl

room_after_itself : (size : Option RoomSize) (names : Names) (g : Grid) (last : Room) →
    room_after size names g (room_after size names g last) ≡ room_after size names g last
room_after_itself None names g last = refl
room_after_itself (Some size) names g last = same_room size g.height (first_player_cell names g) last

pub seen_rooms_stay : SeenRoomsStay
seen_rooms_stay script play = ap (in_room play)
    (room_after_itself script.options.flickscreen script.names play.board play.room)
