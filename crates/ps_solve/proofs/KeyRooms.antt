-- Keys of few words take little room.
use Rattle.std.proofs.Common.{ℕ, ◌+◌, ◌*◌, ◌<◌, ◌≤◌, arith}
use prog.Memory.{up}

-- a multiple that comes next is near
up_eight : (e : ℕ) → up 8 e ≤ e + 7
up_eight e = omega arith

up_four : (e : ℕ) → up 4 e ≤ e + 3
up_four e = omega arith

-- the room of a board's key
pub board_key_room : (n : ℕ) → n ≤ 64 → up 8 (0 + n * 8) < 9223372036854775808
board_key_room n few = let one = up_eight (0 + n * 8) in omega arith

-- that of a spot's key
pub spot_key_room : (n : ℕ) → n ≤ 64 →
    up 8 (up 4 (up 4 (0 + up 8 (0 + n * 8)) + 4) + 12) < 9223372036854775808
spot_key_room n few =
    let one = up_eight (0 + n * 8) in
    let two = up_four (0 + up 8 (0 + n * 8)) in
    let three = up_four (up 4 (0 + up 8 (0 + n * 8)) + 4) in
    let four = up_eight (up 4 (up 4 (0 + up 8 (0 + n * 8)) + 4) + 12) in
    omega arith

-- that of what is kept of a spot
pub kept_key_room : (n : ℕ) → n ≤ 64 → up 8 (up 4 (0 + up 8 (0 + n * 8)) + 4) < 9223372036854775808
kept_key_room n few =
    let one = up_eight (0 + n * 8) in
    let two = up_four (0 + up 8 (0 + n * 8)) in
    let three = up_eight (up 4 (0 + up 8 (0 + n * 8)) + 4) in
    omega arith
