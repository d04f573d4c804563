-- Places that are numbered as they are met.
use Rattle.std.proofs.Common.{◌≡◌, ◌≢◌, ◌∙◌, ℕ, ◌+◌, ◌<◌, inl, inr, Bool, List, [], ◌∷◌, ◌++◌, length}
use Rattle.std.proofs.Common.{refl, sym, ap, arith}
use Rattle.std.specs.Prelude.{nat_eq, replicate, slice_index_or, slice_set}
use Rattle.std.proofs.lemmas.Bool.{cases_eq, cases_lt, ne_eqb, eq-eqb}
use Rattle.std.proofs.lemmas.List.{get_or-set_same, get_or-set_other, get_or_append_left, get_or_push, length-append}
use Rattle.std.proofs.lemmas.List.{get_or-replicate, get_or_past, length-replicate}
use Rattle.ps_rows.specs.PackedKeys.{AreNoted, AreTurned, IsWithin, KeepsKeys, differs, flipped, key_bit, number_at}
use Rattle.ps_rows.specs.declared.noted_cells.TheConstants.{UNNOTED}

-- none
unnoted_at : (count place : ℕ) → number_at (replicate count UNNOTED) place ≡ UNNOTED
unnoted_at count place = elim (cases_lt place count) [
  | inl low ↦ get_or-replicate count place UNNOTED UNNOTED low
  | inr high ↦ get_or_past (replicate count UNNOTED) place UNNOTED (rw length-replicate high)
]

pub none_noted : (count : ℕ) → AreNoted (replicate count UNNOTED) []
none_noted count = record {
  few = omega arith;
  numbered = λ k low. absurd (omega (arith, low));
  placed = λ place low. absurd (omega (arith, low));
  each = λ place high. unnoted_at count place;
}

-- one more
module _ (numbers places : List ℕ) (place : ℕ) (noted : AreNoted numbers places) (new : number_at numbers place ≡ UNNOTED)
    (within : place < length numbers) (room : length places < UNNOTED) where
  abbrev count : ℕ
  count = length places

  abbrev more : List ℕ
  more = slice_set numbers place count

  abbrev after : List ℕ
  after = places ++ place ∷ []

  longer : length after ≡ count + 1
  longer = length-append places (place ∷ [])

  here : number_at more place ≡ count
  here = get_or-set_same numbers place count UNNOTED within

  there : (q : ℕ) → q ≢ place → number_at more q ≡ number_at numbers q
  there q other = get_or-set_other numbers place q count UNNOTED other

  old : (k : ℕ) → k < count → slice_index_or after k 0 ≡ slice_index_or places k 0
  old k low = get_or_append_left places (place ∷ []) 0 k low

  last : (k : ℕ) → k ≡ count → slice_index_or after k 0 ≡ place
  last k is = get_or_push places place 0 k (sym is)

  apart : (k : ℕ) → k < count → slice_index_or places k 0 ≢ place
  apart k low same =
      let own : k ≡ UNNOTED = sym (noted.numbered k low) ∙ ap (number_at numbers) same ∙ new in
      omega (arith, own, low, room)

  numbered : (k : ℕ) → k < length after → number_at more (slice_index_or after k 0) ≡ k
  numbered k low = elim (cases_lt k count) [
    | inl before ↦
        ap (number_at more) (old k before) ∙ there (slice_index_or places k 0) (apart k before)
        ∙ noted.numbered k before
    | inr past ↦
        let is : k ≡ count = omega (arith, low, longer, past) in
        ap (number_at more) (last k is) ∙ here ∙ sym is
  ]

  placed : (q : ℕ) → number_at more q < length after → slice_index_or after (number_at more q) 0 ≡ q
  placed q low = elim (cases_eq q place) [
    | inl same ↦ last (number_at more q) (ap (number_at more) same ∙ here) ∙ sym same
    | inr other ↦ elim (cases_lt (number_at numbers q) count) [
      | inl known ↦
          ap (λ (k : ℕ). slice_index_or after k 0) (there q other) ∙ old (number_at numbers q) known
          ∙ noted.placed q known
      | inr unknown ↦
          let is : number_at more q ≡ UNNOTED = there q other ∙ noted.each q unknown in
          absurd (omega (arith, low, longer, is, room))
    ]
  ]

  pub noted_more : AreNoted more after
  noted_more = record {
    few = omega (arith, longer, room);
    numbered = numbered;
    placed = placed;
    each = λ q high. elim (cases_eq q place) [
      | inl same ↦
          let is : number_at more q ≡ count = ap (number_at more) same ∙ here in
          absurd (omega (arith, is, longer, high))
      | inr other ↦
          let is : number_at more q ≡ number_at numbers q = there q other in
          is ∙ noted.each q (omega (arith, is, high, longer))
    ];
  }

  -- what keys say stays
  pub keeps_more : KeepsKeys numbers count more (length after)
  unfolding differs
  keeps_more = λ words low. (
    λ k far. low k (omega (arith, far, longer)),
    λ q. elim (cases_eq q place) [
      | inl same ↦
          ap (key_bit words) (ap (number_at more) same ∙ here) ∙ low count (omega arith)
          ∙ sym (ap (key_bit words) (ap (number_at numbers) same ∙ new) ∙ low UNNOTED (omega (arith, room)))
      | inr other ↦ ap (key_bit words) (there q other)
    ],
  )

pub keeps_same : (numbers : List ℕ) (n : ℕ) → KeepsKeys numbers n numbers n
keeps_same numbers n = λ words low. (low, λ place. refl)

-- a place that is turned round in a key
module _ (numbers more places : List ℕ) (count place number : ℕ) (words after : List ℕ) (noted : AreNoted more places)
    (kept : KeepsKeys numbers count more (length places)) (is : number_at more place ≡ number)
    (known : number < length places) (low : IsWithin count words)
    (turned : (k : ℕ) → key_bit after k ≡ flipped (nat_eq k number) (key_bit words k)) where
  own_place : (q : ℕ) → number_at more q ≡ number → q ≡ place
  own_place q same =
      let mine : number_at more q < length places = omega (arith, same, known) in
      let its : number_at more place < length places = omega (arith, is, known) in
      sym (noted.placed q mine) ∙ ap (λ (k : ℕ). slice_index_or places k 0) (same ∙ sym is) ∙ noted.placed place its

  same_place : (q : ℕ) → nat_eq (number_at more q) number ≡ nat_eq q place
  same_place q = elim (cases_eq q place) [
    | inl e ↦ eq-eqb (number_at more q) number (ap (number_at more) e ∙ is) ∙ sym (eq-eqb q place e)
    | inr n ↦ ne_eqb (number_at more q) number (λ e. n (own_place q e)) ∙ sym (ne_eqb q place n)
  ]

  pub place_turned : AreTurned (λ q. nat_eq q place) numbers words (length places) more after
  unfolding differs
  place_turned = record {
    within = λ k far.
        let other : k ≢ number = λ e. omega (arith, e, far, known) in
        turned k ∙ ap (λ (b : Bool). flipped b (key_bit words k)) (ne_eqb k number other) ∙ (kept words low).0 k far;
    turned = λ q.
        turned (number_at more q)
        ∙ ap (λ (b : Bool). flipped b (key_bit words (number_at more q))) (same_place q)
        ∙ ap (flipped (nat_eq q place)) ((kept words low).1 q);
  }
