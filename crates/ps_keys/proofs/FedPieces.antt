-- A piece that is fed byte by byte: what was read of it, and what comes after.
use Rattle.std.proofs.Common.{◌≡◌, ℕ, ◌+◌, ◌<◌, ◌≤◌, List, [], ◌∷◌, ◌++◌, Option, None, length, take, drop, get_or}
use Rattle.std.proofs.Common.{refl, sym, ◌∙◌, ap, append_assoc, append-nil}
use Rattle.std.specs.Prelude.{option_to_list}
use Rattle.std.proofs.lemmas.List.{take_more, take-append-drop, take-take}
use Rattle.ps_model.specs.declared.held.Held.{Held}
use Rattle.ps_model.specs.declared.play.Key.{Key}
use Rattle.ps_model.specs.session.Keys.{keys_of}
use Rattle.ps_model.specs.session.HeldKeys.{held, bytes_of, key_behind, held_behind}
use Rattle.ps_laws.proofs.keys.HeldKeys.{one_byte_more}
use Rattle.ps_laws.proofs.keys.KeysInPieces.{keys_of-append, keys_of-nothing_more}
use Rattle.ps_laws.proofs.common.Lists.{none-before}

-- a part of a piece was read after what was held at first, and brought no key
abbrev pub ReadSilently : Held → Held → List ℕ → Type 0
ReadSilently first now part = (others : List ℕ) →
    keys_of (bytes_of first ++ (part ++ others)) ≡ keys_of (bytes_of now ++ others)

-- one byte more
pub read_more : (first now : Held) (piece : List ℕ) (place : ℕ) → place < length piece →
    ReadSilently first now (take place piece) →
    (others : List ℕ) → keys_of (bytes_of first ++ (take (place + 1) piece ++ others))
    ≡ option_to_list (key_behind now (get_or piece place 0)) ++ keys_of
    (bytes_of (held_behind now (get_or piece place 0)) ++ others)
read_more first now piece place within silent others =
    rw (take_more piece place 0 within, append_assoc) (silent (get_or piece place 0 ∷ others))
    ∙ one_byte_more now (get_or piece place 0) others

-- where the byte brings none, so do both
pub still_silent : (first now : Held) (piece : List ℕ) (place : ℕ) → place < length piece →
    ReadSilently first now (take place piece) →
    key_behind now (get_or piece place 0) ≡ None →
    ReadSilently first (held_behind now (get_or piece place 0)) (take (place + 1) piece)
still_silent first now piece place within silent none others =
    read_more first now piece place within silent others ∙ rw none refl

-- the piece is what was read of it and the rest
whole : (piece : List ℕ) (read : ℕ) (others : List ℕ) → piece ++ others ≡ take read piece ++ (drop read piece ++ others)
whole piece read others = ap (λ (l : List ℕ). l ++ others) (sym (take-append-drop read piece))
    ∙ append_assoc (take read piece) (drop read piece) others

-- the keys of the piece and of anything after it, at the byte that brings one
pub fed_key : (first now next : Held) (piece : List ℕ) (place : ℕ) (key : Option Key) → place < length piece →
    ReadSilently first now (take place piece) →
    key ≡ key_behind now (get_or piece place 0) → next ≡ held_behind now (get_or piece place 0) →
    (others : List ℕ) → keys_of (bytes_of first ++ (piece ++ others)) ≡ option_to_list key ++ keys_of
    (bytes_of next ++ (drop (place + 1) piece ++ others))
fed_key first now next piece place key within silent brings holds others = rw (brings, holds)
    (ap (λ (l : List ℕ). keys_of (bytes_of first ++ l)) (whole piece (place + 1) others)
    ∙ read_more first now piece place within silent (drop (place + 1) piece ++ others))

-- the same, where none does
pub fed_whole : (first now : Held) (piece : List ℕ) (read : ℕ) → ReadSilently first now (take read piece) →
    (others : List ℕ) → keys_of (bytes_of first ++ (piece ++ others)) ≡ keys_of
    (bytes_of now ++ (drop read piece ++ others))
fed_whole first now piece read silent others =
    ap (λ (l : List ℕ). keys_of (bytes_of first ++ l)) (whole piece read others) ∙ silent (drop read piece ++ others)

-- no part of what was read without a key has one
pub no_shorter : (first now : Held) (piece : List ℕ) (read shorter : ℕ) → ReadSilently first now (take read piece) →
    shorter ≤ read →
    keys_of (bytes_of first ++ take shorter piece) ≡ []
no_shorter first now piece read shorter silent less =
    let part : List ℕ = bytes_of first ++ take shorter piece in
    let rest : List ℕ = drop shorter (take read piece) in
    let same : take shorter (take read piece) ≡ take shorter piece = take-take _ _ _ less in
    let all : part ++ rest ≡ bytes_of first ++ (take read piece ++ []) =
    append_assoc (bytes_of first) (take shorter piece) rest
    ∙ ap (λ (l : List ℕ). bytes_of first ++ (l ++ rest)) (sym same)
    ∙ ap (λ (l : List ℕ). bytes_of first ++ l) (take-append-drop shorter (take read piece)
    ∙ sym (append-nil (take read piece))) in
    none-before (keys_of part) (keys_of (held part ++ rest)) (sym (keys_of-append part rest) ∙ ap keys_of all
    ∙ silent [] ∙ keys_of-nothing_more now)
