-- Keys that come in pieces: a reader that holds the bytes of an arrow that has begun needs nothing else of the bytes
-- before.
use Rattle.std.specs.Prelude.{ℕ, option_to_list, List, [], ◌∷◌, ◌++◌, ◌≡◌}
use Rattle.ps_model.specs.declared.held.Held.{Held}
use Rattle.ps_model.specs.session.Keys.{keys_of}
use Rattle.ps_model.specs.session.HeldKeys.{held, before_held, bytes_of, key_behind, held_behind}

-- what is held and what is before it are the bytes
abbrev pub HeldAtEnd : Type 0
HeldAtEnd = (bytes : List ℕ) → before_held bytes ++ held bytes ≡ bytes

-- nothing, ESC, or ESC and `[` are held
abbrev pub HeldIsBegun : Type 0
HeldIsBegun = (bytes : List ℕ) → (kept : Held) × (held bytes ≡ bytes_of kept)

-- what is held brings no key as yet
abbrev pub HeldIsSilent : Type 0
HeldIsSilent = (bytes : List ℕ) → (keys_of (held bytes) ≡ []) × (keys_of (before_held bytes) ≡ keys_of bytes)

-- the keys of two pieces are those of the first but for what is held of it, and then those of that and the second
abbrev pub KeysInPieces : Type 0
KeysInPieces =
    (first second : List ℕ) → keys_of (first ++ second) ≡ keys_of (before_held first) ++ keys_of (held first ++ second)

-- a reader that has given the keys of what it read, and holds what is held of it, reads a piece after that. It gives
-- the keys of both but for what is held then. So it has again given the keys of all that it read, and holds what is
-- held of it
abbrev pub ReadPieceByPiece : Type 0
ReadPieceByPiece = (read piece kept : List ℕ) → kept ≡ held read →
    (keys_of read ++ keys_of (before_held (kept ++ piece)) ≡ keys_of (read ++ piece)) ×
    (held (kept ++ piece) ≡ held (read ++ piece))

-- the same byte by byte
abbrev pub ReadByteByByte : Type 0
ReadByteByByte = (read : List ℕ) (byte : ℕ) (kept : Held) → bytes_of kept ≡ held read →
    (keys_of read ++ option_to_list (key_behind kept byte) ≡ keys_of (read ++ byte ∷ [])) ×
    (bytes_of (held_behind kept byte) ≡ held (read ++ byte ∷ []))

-- one byte after what is held, whatever comes after it
abbrev pub OneByteMore : Type 0
OneByteMore = (kept : Held) (byte : ℕ) (others : List ℕ) →
    keys_of (bytes_of kept ++ byte ∷ others) ≡ option_to_list (key_behind kept byte) ++ keys_of
    (bytes_of (held_behind kept byte) ++ others)
