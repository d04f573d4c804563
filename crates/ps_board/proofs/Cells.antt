-- A flat list of slots, read as cells of so many slots each.
use Rattle.std.proofs.Common.{◌≡◌, ℕ, ◌+◌, ◌*◌, ◌-◌, ◌<◌, List, ◌∷◌, length, length-take, length-drop, take, drop, suc}
use Rattle.std.proofs.Common.{zero, refl, ap, ◌∙◌, arith, get_or, map, replicate}
use Rattle.std.specs.Prelude.{slice_set, All}
use Rattle.std.specs.Simd.{first_chunks}
use Rattle.std.specs.List.{take-map, drop-map}
use Rattle.std.proofs.lemmas.List.{take-set-le, drop-set-add, drop-set-lt, take-replicate, drop-replicate, get_or-take}
use Rattle.std.proofs.lemmas.List.{get_or-drop}
use Rattle.std.proofs.Math.Seq.{take-set-lt}

-- the cells of slots that were all changed alike
pub first_chunks-map : {X Y : Type 0} (f : X → Y) (n k : ℕ) (xs : List X) →
    first_chunks n k (map f xs) ≡ map (map f) (first_chunks n k xs)
first_chunks-map f n zero xs = refl
first_chunks-map f n (suc k) xs = rw (take-map, drop-map)
    (ap (λ r. map f (take n xs) ∷ r) (first_chunks-map f n k (drop n xs)))

-- to set one slot is to set it in its cell
pub first_chunks-set : {X : Type 0} (n k c l : ℕ) (xs : List X) (v : X) (d : List X) → l < n → c < k →
    first_chunks n k (slice_set xs (c * n + l) v) ≡ slice_set (first_chunks n k xs) c
    (slice_set (get_or (first_chunks n k xs) c d) l v)
first_chunks-set n zero c l xs v d hl hc = absurd (omega arith)
first_chunks-set n (suc k) zero l xs v d hl hc =
    let p : 0 * n + l ≡ l = omega arith in
    rw (p, take-set-lt n xs l v hl, drop-set-lt n xs l v hl) refl
first_chunks-set n (suc k) (suc c) l xs v d hl hc =
    let p : suc c * n + l ≡ n + (c * n + l) = omega arith in
    rw (p, take-set-le n xs (n + (c * n + l)) v (omega arith), drop-set-add n xs (c * n + l) v)
    (ap (λ r. take n xs ∷ r) (first_chunks-set n k c l (drop n xs) v d hl (omega arith)))

-- a slot of a cell, where it stands in the flat list
pub first_chunks-get : {X : Type 0} (n k c l : ℕ) (xs : List X) (v : X) (d : List X) → l < n → c < k →
    get_or (get_or (first_chunks n k xs) c d) l v ≡ get_or xs (c * n + l) v
first_chunks-get n zero c l xs v d hl hc = absurd (omega arith)
first_chunks-get n (suc k) zero l xs v d hl hc =
    let p : 0 * n + l ≡ l = omega arith in rw (p, get_or-take n xs l v hl) refl
first_chunks-get n (suc k) (suc c) l xs v d hl hc =
    let p : suc c * n + l ≡ n + (c * n + l) = omega arith in
    rw p (first_chunks-get n k c l (drop n xs) v d hl (omega arith) ∙ get_or-drop n xs (c * n + l) v)

-- the cells of a list of one thing over and over
pub first_chunks-replicate : {X : Type 0} (n k m : ℕ) (v : X) → m ≡ k * n →
    first_chunks n k (replicate m v) ≡ replicate k (replicate n v)
first_chunks-replicate n zero m v e = refl
first_chunks-replicate n (suc k) m v e =
    let p : m ≡ n + k * n = omega arith in
    rw (take-replicate n m v (omega arith), drop-replicate n m v)
    (ap (λ r. replicate n v ∷ r) (first_chunks-replicate n k (m - n) v (omega arith)))

-- how many cells there are
pub length-first_chunks : {X : Type 0} (n k : ℕ) (xs : List X) → length (first_chunks n k xs) ≡ k
length-first_chunks n zero xs = refl
length-first_chunks n (suc k) xs = ap suc (length-first_chunks n k (drop n xs))

-- each cell has so many slots, where there are enough
pub length-chunk : {X : Type 0} (n k i m : ℕ) (xs : List X) (d : List X) → length xs ≡ m → m ≡ k * n → i < k →
    length (get_or (first_chunks n k xs) i d) ≡ n
length-chunk n zero i m xs d long e h = absurd (omega arith)
length-chunk n (suc k) zero m xs d long e h =
    let p : m ≡ n + k * n = omega arith in
    rw length-take (omega arith)
length-chunk n (suc k) (suc i) m xs d long e h =
    let p : m ≡ n + k * n = omega arith in
    length-chunk n k i (k * n) (drop n xs) d (rw length-drop (omega arith)) refl (omega arith)

pub first_chunks-length : {X : Type 0} (n k : ℕ) (xs : List X) → length xs ≡ k * n →
    All (λ cell. length cell ≡ n) (first_chunks n k xs)
first_chunks-length n k xs long = λ i d h. length-chunk n k i (k * n) xs d long refl (rw length-first_chunks at h)
