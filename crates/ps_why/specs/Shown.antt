-- Texts as they are shown: without a character that a terminal takes as an order, or that turns the direction of others.
use Rattle.std.specs.Prelude.{ℕ, ◌==◌, nat_lt, nat_le, Bool, ◌&&◌, ◌||◌, not, if◌then◌else◌, List, encode_utf8}
use Rattle.std.specs.List.{flat_map}
use Rattle.std.specs.Str.{chars}

-- a terminal takes the character as an order: those below 32 but for the tab, 127, and U+0080 to U+009F
abbrev pub is_order : ℕ → Bool
is_order character = (nat_lt character 32 && not (character == 9)) || (nat_le 127 character && nat_lt character 160)

-- the character sets the direction of those that follow: U+202A to U+202E, and U+2066 to U+2069
abbrev pub sets_direction : ℕ → Bool
sets_direction character =
    (nat_le 8234 character && nat_le character 8238) || (nat_le 8294 character && nat_le character 8297)

-- the character, or a point in place of one of these
abbrev pub shown_character : ℕ → ℕ
shown_character character = if is_order character || sets_direction character then 183 else character

-- characters as a text in which none is an order
abbrev pub shown_characters : List ℕ → List ℕ
shown_characters characters = flat_map (λ character. encode_utf8 (shown_character character)) characters

-- a text in which none is
abbrev pub shown_text : List ℕ → List ℕ
shown_text text = shown_characters (chars text)
