-- Keys that come in pieces. The bytes at the end of a piece that may begin an arrow are held, and the next piece is
-- read after them. A reader that holds them needs nothing else of the bytes before.
use Rattle.std.specs.Prelude.{ℕ, ◌==◌, ◌&&◌, Bool, true, false, Option, Some, None, List, [], ◌∷◌}
use Rattle.ps_model.specs.declared.held.Held.{Held}
use Rattle.ps_model.specs.declared.held.Held.TheVariants.{Nothing, Escape, Bracket}
use Rattle.ps_model.specs.declared.play.Key.{Key}
use Rattle.ps_model.specs.session.Keys.{key_of, arrow_of}

-- pieces --------------------------------------------------------------------------------------------------------------

-- the bytes are an arrow that has begun and isn't whole: ESC, or ESC and `[`
abbrev pub is_begun_arrow : List ℕ → Bool
is_begun_arrow [] = false
is_begun_arrow (first ∷ []) = first == 27
is_begun_arrow (first ∷ second ∷ []) = first == 27 && second == 91
is_begun_arrow (first ∷ second ∷ third ∷ others) = false

-- the bytes at the end that are held: an arrow that has begun there
abbrev pub held : List ℕ → List ℕ
held [] = []
held (byte ∷ bytes) = elim (is_begun_arrow (byte ∷ bytes)) [
  | true ↦ byte ∷ bytes
  | false ↦ held bytes
]

-- the bytes before those
abbrev pub before_held : List ℕ → List ℕ
before_held [] = []
before_held (byte ∷ bytes) = elim (is_begun_arrow (byte ∷ bytes)) [
  | true ↦ []
  | false ↦ byte ∷ before_held bytes
]

-- byte by byte --------------------------------------------------------------------------------------------------------

-- the bytes that are held
abbrev pub bytes_of : Held → List ℕ
bytes_of Nothing = []
bytes_of Escape = 27 ∷ []
bytes_of Bracket = 27 ∷ 91 ∷ []

-- the key of a byte, where it ends no arrow
abbrev pub key_unless_arrow : Option Key → ℕ → Option Key
key_unless_arrow (Some arrow) byte = Some arrow
key_unless_arrow None byte = key_of byte

-- the key that one more byte brings after what is held: an arrow, or the byte's own
abbrev pub key_behind : Held → ℕ → Option Key
key_behind Nothing byte = key_of byte
key_behind Escape byte = key_of byte
key_behind Bracket byte = key_unless_arrow (arrow_of byte) byte

-- what is held after a byte that isn't ESC: `[` goes on with an arrow where ESC is held
abbrev pub held_unless_escape : Held → Bool → Held
held_unless_escape Escape true = Bracket
held_unless_escape other is_bracket = Nothing

-- what is held after one more byte: each ESC begins an arrow anew
abbrev pub held_behind : Held → ℕ → Held
held_behind kept byte = elim (byte == 27) [
  | true ↦ Escape
  | false ↦ held_unless_escape kept (byte == 91)
]
