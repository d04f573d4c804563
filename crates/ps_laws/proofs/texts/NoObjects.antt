-- A legend whose lines all mention a legend line first has a line on a cycle: a walk from line to line comes back.
use Rattle.std.proofs.Common.{◌≡◌, ℕ, zero, suc, ◌<◌, ◌≤◌, ◌⊎◌, inl, inr, Bool, true, false, List, [], ◌∷◌, length, map}
use Rattle.std.proofs.Common.{get_or, refl, sym, ap, ◌∙◌, arith}
use mathlib.Core.Path.{subst}
use Rattle.std.specs.Prelude.{All, nat_eq}
use Rattle.std.specs.List.{range_with_len, list_any}
use Rattle.std.proofs.lemmas.Bool.{eqb-true, or_cases}
use Rattle.std.proofs.lemmas.List.Elements.{All-head, All-tail, All-map}
use Rattle.std.proofs.lemmas.List.FromFn.{length-map-range_with_len, get_or-map-range_with_len}
use Rattle.std.proofs.lemmas.Map.Keys.{IsDistinct-from_apart}
use Rattle.std.proofs.lemmas.Map.Steps.{length-le_from_distinct_below}
use Rattle.ps_laws.proofs.common.Everywhere.{All-always}
use Rattle.ps_model.specs.names.Meanings.{LegendName, Mention, OfObject, OfLine, mentions_of, all_mentioned}
use Rattle.ps_laws.proofs.texts.AllMentioned.{has, Lists, all_mentioned-lists}
use Rattle.ps_laws.proofs.common.Truths.{impossible}

-- the legend line that is mentioned first
abbrev pub first_line : List Mention → ℕ
first_line [] = 0
first_line (OfObject object ∷ others) = 0
first_line (OfLine place ∷ others) = place

-- the first mention is one of `count` legend lines
pub record StartsWithLine (count : ℕ) (mentions : List Mention) : Type 0 where
  pub within : first_line mentions < count
  pub there : has mentions (first_line mentions) ≡ true

-- the line to which a walk comes, from the first line on, always to the line that is mentioned first
abbrev walk : List LegendName → ℕ → ℕ
walk legend zero = 0
walk legend (suc steps) = first_line (mentions_of legend (OfLine (walk legend steps)))

differ_by : (first second : ℕ) (same : Bool) → nat_eq first second ≡ same → (first ≡ second → ⊥) → same ≡ false
differ_by first second true e h = absurd (h (eqb-true first second e))
differ_by first second false e h = refl

found_under : (count number : ℕ) (numbers : List ℕ) → All (λ each. each < count) numbers →
    list_any (nat_eq number) numbers ≡ true → number < count
found_under count number [] all e = impossible e
found_under count number (first ∷ numbers) all e =
    elim (or_cases (nat_eq number first) (list_any (nat_eq number) numbers) e) [
      | inl same ↦ let here : number ≡ first = eqb-true number first same in
          omega (arith, here, All-head (λ (each : ℕ). each < count) first numbers all)
      | inr behind ↦ found_under count number numbers (All-tail (λ (each : ℕ). each < count) first numbers all) behind
    ]

-- numbers below a limit come back
not_into : (f : ℕ → ℕ) (count : ℕ) → ((i : ℕ) → f i < count) → ((i j : ℕ) → i < j → f i ≡ f j → ⊥) → ⊥
not_into f count within apart =
    let numbers : List ℕ = map f (range_with_len 0 (suc count)) in
    let long : length numbers ≡ suc count = length-map-range_with_len f 0 (suc count) in
    let at : (i d : ℕ) → i < length numbers → get_or numbers i d ≡ f i = λ i d h.
    get_or-map-range_with_len f 0 (suc count) i i d (omega (arith, long, h)) (omega arith) in
    let few : length numbers ≤ count =
    length-le_from_distinct_below numbers count
    (IsDistinct-from_apart nat_eq numbers (λ i j d h k.
    let first : get_or numbers i d ≡ f i = at i d (omega (arith, h, k)) in
    let second : get_or numbers j d ≡ f j = at j d k in
    differ_by (get_or numbers i d) (get_or numbers j d) (nat_eq (get_or numbers i d) (get_or numbers j d)) refl
    (λ same. apart i j h (sym first ∙ same ∙ second))))
    (λ number e. found_under count number numbers
    (All-map (λ (each : ℕ). each < count) f (range_with_len 0 (suc count))
    (All-always (λ i. f i < count) (range_with_len 0 (suc count)) within)) e) in
    omega (arith, long, few)

less_or_same : (i j : ℕ) → i < suc j → (i < j) ⊎ (i ≡ j)
less_or_same i j h = grind arith

module _ (legend : List LegendName) (some : 0 < length legend) (on : (place : ℕ) → place < length legend →
    StartsWithLine (length legend) (mentions_of legend (OfLine place))) where
  walk-within : (steps : ℕ) → walk legend steps < length legend
  walk-within zero = some
  walk-within (suc steps) = (on (walk legend steps) (walk-within steps)).within

  -- each line on the way is mentioned, itself or through others, by the lines before it
  walk-mentioned : (i j : ℕ) → i < j → has (all_mentioned legend (mentions_of legend (OfLine (walk legend i))))
      (walk legend j) ≡ true
  walk-mentioned i zero h = absurd (omega arith)
  walk-mentioned i (suc j) h =
      let mentions : List Mention = mentions_of legend (OfLine (walk legend i)) in
      let lists : Lists legend [] mentions (all_mentioned legend mentions) = all_mentioned-lists legend mentions in
      let next : has (mentions_of legend (OfLine (walk legend j))) (walk legend (suc j)) ≡ true =
      (on (walk legend j) (walk-within j)).there in
      elim (less_or_same i j h) [
        | inl less ↦ lists.closed (walk legend j) (walk legend (suc j)) (walk-mentioned i j less) next
        | inr same ↦ lists.comes (walk legend (suc j))
            (subst (λ (k : ℕ). has (mentions_of legend (OfLine (walk legend k))) (walk legend (suc j)) ≡ true)
            (sym same) next)
      ]

  module _ (no_cycle : (place : ℕ) → place < length legend →
      has (all_mentioned legend (mentions_of legend (OfLine place))) place ≡ false) where
    never-back : (i j : ℕ) → i < j → walk legend i ≡ walk legend j → ⊥
    never-back i j h e =
        let all : List Mention = all_mentioned legend (mentions_of legend (OfLine (walk legend i))) in
        impossible (sym (no_cycle (walk legend i) (walk-within i)) ∙ ap (has all) e ∙ walk-mentioned i j h)

    -- lines, each of which mentions a line first, and none of which lies on a cycle: there are none such
    pub no_such_legend : ⊥
    no_such_legend = not_into (walk legend) (length legend) walk-within never-back
