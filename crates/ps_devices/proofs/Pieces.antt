-- Pieces, one after the other.
use Rattle.std.proofs.Common.{◌≡◌, ℕ, ◌+◌, List, ◌++◌, take, drop, sym, ap, refl, Option, Some, None, append_assoc}
use Rattle.std.proofs.lemmas.List.{take-append-drop, drop-drop}
use Rattle.ps_devices.specs.Devices.{Grows, Loses}

-- growing twice
pub grows_twice : (a b c : Option (List ℕ)) (x y z : List ℕ) → Grows a b x → Grows b c y → z ≡ x ++ y → Grows a c z
grows_twice None b c x y z h k e = rw (k, h) refl
grows_twice (Some a) b c x y z h k e = rw (k, h, e) (ap Some (append_assoc a x y))

-- losing twice
pub loses_twice : (a b c : Option (List ℕ)) (x y : List ℕ) → Loses a b x → Loses b c y → Loses a c (x ++ y)
loses_twice a b None x y h k = rw (h, k) refl
loses_twice a b (Some c) x y h k = rw (h, k) (ap Some (sym (append_assoc x y c)))

-- what is left after a piece
pub left_more : (bytes buffer : List ℕ) (place count : ℕ) → take count buffer ≡ take count (drop place bytes) →
    drop place bytes ≡ take count buffer ++ drop (place + count) bytes
left_more bytes buffer place count e = rw (e, ← drop-drop count place bytes)
    (sym (take-append-drop count (drop place bytes)))
