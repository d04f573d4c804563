-- The keys of bytes that are read one by one.
use Rattle.std.proofs.Common.{◌≡◌, ◌∙◌, ℕ, ◌+◌, ◌<◌, ◌≤◌, ◌++◌, List, Option, drop, get_or, length, sym, ap, append_assoc}
use Rattle.std.specs.Prelude.{option_to_list}
use Rattle.std.proofs.lemmas.List.{append-nil, at_drop_all, at_drop_more}
use Rattle.ps_model.specs.declared.held.Held.{Held}
use Rattle.ps_model.specs.declared.play.Key.{Key}
use Rattle.ps_model.specs.session.Keys.{keys_of}
use Rattle.ps_model.specs.session.HeldKeys.{bytes_of, held_behind, key_behind}
use Rattle.ps_laws.proofs.keys.HeldKeys.{one_byte_more}
use Rattle.ps_laws.proofs.keys.KeysInPieces.{keys_of-nothing_more}

-- the keys of the bytes are those that were read, and those of what is held and the bytes from a place on
abbrev pub HaveRead : List ℕ → ℕ → Held → List Key → Type 0
HaveRead bytes at kept keys = keys ++ keys_of (bytes_of kept ++ drop at bytes) ≡ keys_of bytes

-- one more byte is read
pub read_one_more : (bytes : List ℕ) (at : ℕ) (kept next : Held) (keys more : List Key) (key : Option Key) →
    at < length bytes → key ≡ key_behind kept (get_or bytes at 0) → next ≡ held_behind kept (get_or bytes at 0) →
    more ≡ keys ++ option_to_list key → HaveRead bytes at kept keys → HaveRead bytes (at + 1) next more
read_one_more bytes at kept next keys more key within brings holds pushed before =
    let byte : ℕ = get_or bytes at 0 in
    let others : List ℕ = drop (at + 1) bytes in
    rw (pushed, brings, holds)
    (append_assoc keys (option_to_list (key_behind kept byte)) (keys_of (bytes_of (held_behind kept byte) ++ others))
    ∙ ap (λ (l : List Key). keys ++ l) (sym (one_byte_more kept byte others))
    ∙ sym (at_drop_more (λ (l : List ℕ). keys ++ keys_of (bytes_of kept ++ l)) bytes at 0 within)
    ∙ before)

-- all bytes are read
pub all_read : (bytes : List ℕ) (at : ℕ) (kept : Held) (keys : List Key) → length bytes ≤ at →
    HaveRead bytes at kept keys → keys ≡ keys_of bytes
all_read bytes at kept keys all before =
    sym (append-nil keys)
    ∙ ap (λ (l : List Key). keys ++ l) (sym (keys_of-nothing_more kept))
    ∙ sym (at_drop_all (λ (l : List ℕ). keys ++ keys_of (bytes_of kept ++ l)) bytes at all)
    ∙ before
