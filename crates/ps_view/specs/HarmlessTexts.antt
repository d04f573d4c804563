-- What a terminal is shown of a line's bytes: its characters, with a dot for each that a terminal takes as an order.
use Rattle.std.specs.Prelude.{ℕ, nat_lt, nat_le, Bool, false, ◌&&◌, ◌||◌, if◌then◌else◌, unwrap_or, List, map}
use Rattle.std.specs.Str.{chars}
use Rattle.std.specs.Str.Lossy.{utf8_lossy}
use Rattle.unicode_width.specs.Width.{char_width}

-- the character controls a terminal
abbrev pub is_control : ℕ → Bool
is_control character = nat_lt character 32 || (nat_le 127 character && nat_lt character 160)

-- the character sets the direction of those that follow: U+202A to U+202E, and U+2066 to U+2069
abbrev pub turns_direction : ℕ → Bool
turns_direction character = (nat_le 8234 character && nat_lt character 8239)
    || (nat_le 8294 character && nat_lt character 8298)

-- a terminal takes the character as an order
abbrev pub is_order : ℕ → Bool
is_order character = is_control character || turns_direction character

-- the character; a dot in the middle of the row for one that would be an order
abbrev pub harmless : ℕ → ℕ
harmless character = if is_order character then 183 else character

-- the characters of a line, each of them harmless; bytes that are no UTF-8 are read as U+FFFD
abbrev pub harmless_text : List ℕ → List ℕ
harmless_text line = map harmless (chars (utf8_lossy line))

-- how many columns of a terminal a character covers
abbrev pub columns_of : ℕ → ℕ
columns_of character = unwrap_or (char_width false character) 1
