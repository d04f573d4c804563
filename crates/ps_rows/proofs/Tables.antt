-- Lists that are made from a function of the place.
use Rattle.std.proofs.Common.{◌≡◌, ◌≢◌, ℕ, zero, suc, ◌+◌, ◌<◌, inl, inr, length, get_or, map, replicate, refl, sym}
use Rattle.std.proofs.Common.{◌∙◌, arith}
use Rattle.std.specs.Prelude.{slice_set}
use Rattle.std.specs.List.{range_with_len}
use Rattle.std.proofs.lemmas.Bool.{cases_eq}
use Rattle.std.proofs.lemmas.List.{same_lists, get_or-set_same, get_or-set_other, length-set}
use Rattle.std.proofs.lemmas.List.FromFn.{length-map-range_with_len, get_or-map-range_with_len}

-- what stands at a place
pub tabled_at : {X : Type 0} (f : ℕ → X) (n k : ℕ) (d : X) → k < n → get_or (map f (range_with_len 0 n)) k d ≡ f k
tabled_at f n k d h = get_or-map-range_with_len f 0 n k k d h (omega arith)

-- two functions that agree below the length
pub tabled_same : {X : Type 0} (f g : ℕ → X) (n : ℕ) → ((k : ℕ) → k < n → f k ≡ g k) →
    map f (range_with_len 0 n) ≡ map g (range_with_len 0 n)
tabled_same f g n agree =
    same_lists (map f (range_with_len 0 n)) (map g (range_with_len 0 n)) (length-map-range_with_len f 0 n
    ∙ sym (length-map-range_with_len g 0 n))
    (λ k d h. let below : k < n = rw (← length-map-range_with_len f 0 n) h in tabled_at f n k d below ∙ agree k below
    ∙ sym (tabled_at g n k d below))

-- two functions that agree but at one place
pub tabled_set : {X : Type 0} (f g : ℕ → X) (n place : ℕ) → place < n → ((k : ℕ) → k < n → k ≢ place → f k ≡ g k) →
    map f (range_with_len 0 n) ≡ slice_set (map g (range_with_len 0 n)) place (f place)
tabled_set f g n place inside agree =
    let before = map g (range_with_len 0 n) in
    let long : place < length before = rw length-map-range_with_len inside in
    same_lists (map f (range_with_len 0 n)) (slice_set before place (f place))
    (length-map-range_with_len f 0 n ∙ sym (length-set before place (f place) ∙ length-map-range_with_len g 0 n))
    (λ k d h.
    let below : k < n = rw (← length-map-range_with_len f 0 n) h in
    elim (cases_eq k place) [
      | inl e ↦ rw e (tabled_at f n place d inside ∙ sym (get_or-set_same before place (f place) d long))
      | inr other ↦ tabled_at f n k d below ∙ agree k below other ∙ sym (tabled_at g n k d below)
          ∙ sym (get_or-set_other before place k (f place) d other)
    ])

-- a function that is the same everywhere
pub tabled_alike : {X : Type 0} (f : ℕ → X) (x : X) (a n : ℕ) → ((k : ℕ) → f k ≡ x) →
    map f (range_with_len a n) ≡ replicate n x
tabled_alike f x a zero alike = refl
tabled_alike f x a (suc n) alike = rw (alike a, tabled_alike f x (a + 1) n alike) refl
