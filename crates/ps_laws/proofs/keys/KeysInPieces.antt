-- Keys that come in pieces: what is held after a piece, and the keys of two pieces.
use Rattle.std.proofs.Common.{◌≡◌, ℕ, Bool, true, false, List, [], ◌∷◌, ◌++◌, refl, sym, ◌∙◌, ap, append_assoc}
use Rattle.std.specs.Prelude.{option_to_list}
use Rattle.std.proofs.lemmas.List.{append-nil}
use Rattle.ps_model.specs.declared.held.Held.{Held}
use Rattle.ps_model.specs.declared.held.Held.TheVariants.{Nothing, Escape, Bracket}
use Rattle.ps_model.specs.declared.play.Key.{Key}
use Rattle.ps_model.specs.session.Keys.{keys_of}
use Rattle.ps_model.specs.session.HeldKeys.{is_begun_arrow, held, before_held, bytes_of, key_behind, held_behind}
use Rattle.ps_laws.specs.ReadingInPieces.{HeldAtEnd, HeldIsBegun, HeldIsSilent, KeysInPieces, ReadPieceByPiece}
use Rattle.ps_laws.specs.ReadingInPieces.{ReadByteByByte}
use Rattle.ps_laws.proofs.keys.HeldKeys.{one_byte_more, held_one_more}

-- a piece -------------------------------------------------------------------------------------------------------------

-- what is held after a piece, and the keys of it
abbrev held_behind_all : Held → List ℕ → Held
held_behind_all kept [] = kept
held_behind_all kept (byte ∷ bytes) = held_behind_all (held_behind kept byte) bytes

abbrev keys_behind_all : Held → List ℕ → List Key
keys_behind_all kept [] = []
keys_behind_all kept (byte ∷ bytes) = option_to_list (key_behind kept byte) ++ keys_behind_all (held_behind kept byte)
    bytes

keys_of-piece : (kept : Held) (piece others : List ℕ) →
    keys_of (bytes_of kept ++ (piece ++ others)) ≡ keys_behind_all kept piece ++ keys_of
    (bytes_of (held_behind_all kept piece) ++ others)
keys_of-piece kept [] others = refl
keys_of-piece kept (byte ∷ bytes) others =
    one_byte_more kept byte (bytes ++ others)
    ∙ ap (λ l. option_to_list (key_behind kept byte) ++ l) (keys_of-piece (held_behind kept byte) bytes others)
    ∙ sym (append_assoc (option_to_list (key_behind kept byte)) (keys_behind_all (held_behind kept byte) bytes)
    (keys_of (bytes_of (held_behind_all (held_behind kept byte) bytes) ++ others)))

held-nothing_more : (kept : Held) → held (bytes_of kept ++ []) ≡ bytes_of kept
held-nothing_more Nothing = refl
held-nothing_more Escape = refl
held-nothing_more Bracket = refl

held-piece : (kept : Held) (piece : List ℕ) → held (bytes_of kept ++ piece) ≡ bytes_of (held_behind_all kept piece)
held-piece kept [] = held-nothing_more kept
held-piece kept (byte ∷ bytes) = held_one_more kept byte bytes ∙ held-piece (held_behind kept byte) bytes

pub keys_of-nothing_more : (kept : Held) → keys_of (bytes_of kept ++ []) ≡ []
keys_of-nothing_more Nothing = refl
keys_of-nothing_more Escape = refl
keys_of-nothing_more Bracket = refl

keys_of-whole : (piece : List ℕ) → keys_of piece ≡ keys_behind_all Nothing piece
keys_of-whole piece =
    ap keys_of (sym (append-nil piece)) ∙ keys_of-piece Nothing piece []
    ∙ ap (λ l. keys_behind_all Nothing piece ++ l) (keys_of-nothing_more (held_behind_all Nothing piece))
    ∙ append-nil (keys_behind_all Nothing piece)

-- the keys of two pieces are those of the first, and then those of what is held of it and the second
pub keys_of-append : (first second : List ℕ) →
    keys_of (first ++ second) ≡ keys_of first ++ keys_of (held first ++ second)
keys_of-append first second =
    keys_of-piece Nothing first second
    ∙ ap (λ (l : List Key). l ++ keys_of (bytes_of (held_behind_all Nothing first) ++ second))
    (sym (keys_of-whole first))
    ∙ ap (λ (l : List ℕ). keys_of first ++ keys_of (l ++ second)) (sym (held-piece Nothing first))

held_behind_all-append : (kept : Held) (first second : List ℕ) →
    held_behind_all kept (first ++ second) ≡ held_behind_all (held_behind_all kept first) second
held_behind_all-append kept [] second = refl
held_behind_all-append kept (byte ∷ bytes) second = held_behind_all-append (held_behind kept byte) bytes second

-- what is held of two pieces is held of what is held of the first and the second
pub held-append : (first second : List ℕ) → held (held first ++ second) ≡ held (first ++ second)
held-append first second =
    ap (λ (l : List ℕ). held (l ++ second)) (held-piece Nothing first)
    ∙ held-piece (held_behind_all Nothing first) second
    ∙ ap bytes_of (sym (held_behind_all-append Nothing first second))
    ∙ sym (held-piece Nothing (first ++ second))

-- laws ----------------------------------------------------------------------------------------------------------------

pub held_is_begun : HeldIsBegun
held_is_begun bytes = (held_behind_all Nothing bytes, held-piece Nothing bytes)

at_end : (byte : ℕ) (bytes : List ℕ) (is_begun : Bool) → before_held bytes ++ held bytes ≡ bytes →
    elim is_begun [ true ↦ [] | false ↦ byte ∷ before_held bytes ] ++ elim is_begun
    [ true ↦ byte ∷ bytes | false ↦ held bytes ] ≡ byte ∷ bytes
at_end byte bytes true e = refl
at_end byte bytes false e = ap (λ l. byte ∷ l) e

pub held_at_end : HeldAtEnd
held_at_end [] = refl
held_at_end (byte ∷ bytes) = at_end byte bytes (is_begun_arrow (byte ∷ bytes)) (held_at_end bytes)

-- two beginnings in a row bring no key
silent : (first second : Held) → keys_of (bytes_of first ++ bytes_of second) ≡ []
silent Nothing Nothing = refl
silent Nothing Escape = refl
silent Nothing Bracket = refl
silent Escape Nothing = refl
silent Escape Escape = refl
silent Escape Bracket = refl
silent Bracket Nothing = refl
silent Bracket Escape = refl
silent Bracket Bracket = refl

keys_of-held : (bytes : List ℕ) → keys_of (held bytes) ≡ []
keys_of-held bytes = ap keys_of (held-piece Nothing bytes) ∙ silent Nothing (held_behind_all Nothing bytes)

pub keys_of-before_held : (bytes : List ℕ) → keys_of (before_held bytes) ≡ keys_of bytes
keys_of-before_held bytes =
    let none : keys_of (held (before_held bytes) ++ held bytes) ≡ [] =
    ap (λ (l : List ℕ). keys_of (l ++ held bytes)) (held-piece Nothing (before_held bytes))
    ∙ ap (λ (l : List ℕ). keys_of (bytes_of (held_behind_all Nothing (before_held bytes)) ++ l))
    (held-piece Nothing bytes)
    ∙ silent (held_behind_all Nothing (before_held bytes)) (held_behind_all Nothing bytes) in
    sym (append-nil (keys_of (before_held bytes)))
    ∙ ap (λ (l : List Key). keys_of (before_held bytes) ++ l) (sym none)
    ∙ sym (keys_of-append (before_held bytes) (held bytes))
    ∙ ap keys_of (held_at_end bytes)

pub held_is_silent : HeldIsSilent
held_is_silent bytes = (keys_of-held bytes, keys_of-before_held bytes)

pub keys_in_pieces : KeysInPieces
keys_in_pieces first second = keys_of-append first second
    ∙ ap (λ (l : List Key). l ++ keys_of (held first ++ second)) (sym (keys_of-before_held first))

pub read_piece_by_piece : ReadPieceByPiece
read_piece_by_piece read piece kept e = rw e (
  ap (λ (l : List Key). keys_of read ++ l) (keys_of-before_held (held read ++ piece)) ∙ sym (keys_of-append read piece),
  held-append read piece,
)

read_byte : (byte : ℕ) (kept : Held) → keys_of (bytes_of kept ++ byte ∷ []) ≡ option_to_list (key_behind kept byte)
read_byte byte kept =
    one_byte_more kept byte [] ∙ ap (λ (l : List Key).
    option_to_list (key_behind kept byte) ++ l) (keys_of-nothing_more (held_behind kept byte))
    ∙ append-nil (option_to_list (key_behind kept byte))

pub read_byte_by_byte : ReadByteByByte
read_byte_by_byte read byte kept e = (
  ap (λ (l : List Key). keys_of read ++ l) (sym (read_byte byte kept)
      ∙ ap (λ (l : List ℕ). keys_of (l ++ byte ∷ [])) e) ∙ sym (keys_of-append read (byte ∷ [])),
  sym (held-piece kept (byte ∷ [])) ∙ ap (λ (l : List ℕ). held (l ++ byte ∷ [])) e ∙ held-append read (byte ∷ []),
)
