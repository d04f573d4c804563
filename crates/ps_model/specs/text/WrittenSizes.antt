-- The size of rooms as a word writes it: `WxH`, its columns and its rows, parted by one `x` in either case. Each is
-- written in one to three digits, and is from 1 to the limit of a board's sides.
use Rattle.std.specs.Prelude.{ℕ, ◌==◌, nat_le, Bool, ◌&&◌, ◌||◌, Option, Some, None, List, length}
use Rattle.std.specs.List.{before_first, after_first}
use Rattle.std.specs.Str.{all_ascii_digits}
use Rattle.std.specs.Str.Parse.{digits_value}
use Rattle.ps_model.specs.declared.limits.TheConstants.{SIDE_LIMIT}
use Rattle.ps_model.specs.declared.rooms.RoomSize.{RoomSize}
use Rattle.ps_model.specs.text.OptionSteps.{only_if}

-- the byte is an `x`, in either case
abbrev pub is_x : ℕ → Bool
is_x byte = byte == 120 || byte == 88

-- the bytes are one to three digits
abbrev pub are_few_digits : List ℕ → Bool
are_few_digits bytes = (nat_le 1 (length bytes) && nat_le (length bytes) 3) && all_ascii_digits bytes

-- a side is a number from 1 to the limit
abbrev pub is_side : ℕ → Bool
is_side number = nat_le 1 number && nat_le number SIDE_LIMIT

-- the side that bytes write, if they are few digits and these a side's
abbrev pub side_of : List ℕ → Option ℕ
side_of bytes = let number : ℕ = digits_value 10 bytes in only_if (are_few_digits bytes && is_side number) number

-- two sides are a size
abbrev pub size_of_sides : Option ℕ → Option ℕ → Option RoomSize
size_of_sides None height = None
size_of_sides (Some width) None = None
size_of_sides (Some width) (Some height) = Some (record { width = width; height = height })

-- the size that a word writes: a side before its first `x`, and a side after it, which has no further `x` as it has
-- digits alone
abbrev pub size_of_word : List ℕ → Option RoomSize
size_of_word word = size_of_sides (side_of (before_first is_x word)) (side_of (after_first is_x word))
