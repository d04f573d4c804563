-- Sets of columns that are joined, each with the one at its place of others.
use Rattle.std.proofs.Common.{◌≡◌, ◌≢◌, ◌∙◌, ℕ, ◌+◌, ◌<◌, ◌≤◌, inl, inr, Bool, List, [], length, sym, ap, ap₂, arith}
use Rattle.std.specs.Prelude.{slice_index_or, slice_set}
use Rattle.std.proofs.lemmas.Bool.{cases_eq}
use Rattle.std.proofs.lemmas.List.{get_or-set_other, get_or-set_same, get_or_read}

module _ (join : List Bool → List Bool → List Bool) (old words now : List (List Bool)) (step : ℕ) where
  -- one set more
  pub joined_one : (here there set : List Bool) → step < length old → length words ≡ length old →
      length now ≡ length old → here ≡ slice_index_or now step here → there ≡ slice_index_or words step there →
      set ≡ join here there →
      ((k : ℕ) → k < step → slice_index_or now k [] ≡ join (slice_index_or old k []) (slice_index_or words k [])) →
      ((k : ℕ) → step ≤ k → slice_index_or now k [] ≡ slice_index_or old k []) → (k : ℕ) → k < step + 1 →
      slice_index_or (slice_set now step set) k [] ≡ join (slice_index_or old k []) (slice_index_or words k [])
  joined_one here there set inside wide long is other so done left k below = elim (cases_eq k step) [
    | inl e ↦
        let within : step < length now = omega arith in
        let beside : step < length words = omega arith in
        let own : step ≤ step = omega arith in
        ap (λ (n : ℕ). slice_index_or (slice_set now step set) n []) e
        ∙ get_or-set_same now step set [] within ∙ so
        ∙ ap₂ join (get_or_read now step here within is [] ∙ left step own)
        (get_or_read words step there beside other [])
        ∙ ap (λ (n : ℕ). join (slice_index_or old n []) (slice_index_or words n [])) (sym e)
    | inr n ↦ get_or-set_other now step k set [] n ∙ done k (omega (arith, below, n))
  ]

  -- those behind it are as they were
  pub others_left : (set : List Bool) →
      ((k : ℕ) → step ≤ k → slice_index_or now k [] ≡ slice_index_or old k []) → (k : ℕ) → step + 1 ≤ k →
      slice_index_or (slice_set now step set) k [] ≡ slice_index_or old k []
  others_left set left k from =
      let apart : k ≢ step = omega arith in
      get_or-set_other now step k set [] apart ∙ left k (omega (arith, from))

  -- and then all are
  pub joined_each : length old ≤ step →
      ((k : ℕ) → k < step → slice_index_or now k [] ≡ join (slice_index_or old k []) (slice_index_or words k [])) →
      (k : ℕ) → k < length old →
      slice_index_or now k [] ≡ join (slice_index_or old k []) (slice_index_or words k [])
  joined_each end done k inside = done k (omega (arith, inside, end))
