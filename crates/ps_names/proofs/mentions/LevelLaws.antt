-- A line that mentions only lines of lower levels doesn't stand for itself.
use Rattle.std.proofs.Common.{◌≡◌, ◌∙◌, ℕ, zero, suc, ◌+◌, ◌<◌, ◌≤◌, Bool, true, false, List, [], ◌∷◌, ◌++◌, ◌||◌}
use Rattle.std.proofs.Common.{length, refl, sym, ap, arith, get_or, Some}
use Rattle.std.specs.Prelude.{nat_eq, nat_lt, option_map}
use Rattle.std.proofs.lemmas.List.{length-map, get_or_past}
use Rattle.std.proofs.lemmas.Option.{slice_get-map, slice_get-get_or, slice_get_past}
use Rattle.std.specs.List.{list_any}
use Rattle.std.proofs.lemmas.List.Folds.{list_all-append}
use Rattle.std.proofs.lemmas.Bool.Decides.{nat_tests}
use Rattle.std.proofs.lemmas.Bool.{and_from, and_parts}
use Rattle.ps_model.specs.names.Meanings.{LegendName, Mention, OfObject, OfLine, same_mention, mentions_of}
use Rattle.ps_model.specs.names.Meanings.{mentions_of_name, with_mentioned, all_mentioned, is_on_cycle, mention_count}
use Rattle.ps_names.specs.declared.legend_names.LegendName as code
use Rattle.ps_names.specs.Known.{mentions_shown}
use Rattle.ps_names.specs.LegendNames.{name_shown, legend_shown}
use Rattle.ps_names.specs.Levels.{level, is_below, are_below, Fall}
use Rattle.ps_names.proofs.mentions.ReachLaw.{list-old, list-new}

irreflexive : (n : ℕ) → nat_lt n n ≡ true → ⊥
irreflexive n e = let less : n < n = grind (arith, nat_tests) in omega arith

module _ (levels : List ℕ) where
  append-below : (limit : ℕ) (first second : List Mention) → are_below levels limit first ≡ true →
      are_below levels limit second ≡ true → are_below levels limit (first ++ second) ≡ true
  append-below limit first second e f = list_all-append (is_below levels limit) first second ∙ and_from _ _ e f

  raise : (low high : ℕ) → low ≤ high → (mention : Mention) → is_below levels low mention ≡ true →
      is_below levels high mention ≡ true
  raise low high less (OfObject object) e = refl
  raise low high less (OfLine place) e = grind (arith, nat_tests)

  pub raise-each : (low high : ℕ) → low ≤ high → (mentions : List Mention) → are_below levels low mentions ≡ true →
      are_below levels high mentions ≡ true
  raise-each low high less [] e = refl
  raise-each low high less (mention ∷ others) e =
      and_from _ _ (raise low high less mention (and_parts _ _ e).0)
      (raise-each low high less others (and_parts (is_below levels low mention) _ e).1)

  -- a line is not among those of lower levels
  not-below : (place : ℕ) (mentions : List Mention) → are_below levels (level levels place) mentions ≡ true →
      list_any (same_mention (OfLine place)) mentions ≡ false
  not-below place [] e = refl
  not-below place (OfObject object ∷ others) e = not-below place others e
  not-below place (OfLine other ∷ others) e =
      by (nat_eq place other) refl (not-below place others
      (and_parts (is_below levels (level levels place) (OfLine other)) _ e).1)
    where
      by : (b : Bool) → nat_eq place other ≡ b → list_any (same_mention (OfLine place)) others ≡ false →
          (nat_eq place other || list_any (same_mention (OfLine place)) others) ≡ false
      by true q rest =
          let same : place ≡ other = grind (arith, nat_tests) in
          let less : nat_lt (level levels other) (level levels place) ≡ true = (and_parts _ _ e).0 in
          let less' : nat_lt (level levels other) (level levels other) ≡ true =
          ap (λ p. nat_lt (level levels other) (level levels p)) (sym same) ∙ less in
          absurd (irreflexive (level levels other) less')
      by false q rest = ap (λ b. b || list_any (same_mention (OfLine place)) others) q ∙ rest

module _ (legend : List LegendName) (levels : List ℕ) (limit : ℕ) (fall : Fall legend levels) where
  mentioned-below : (mention : Mention) → is_below levels limit mention ≡ true →
      are_below levels limit (mentions_of legend mention) ≡ true
  mentioned-below (OfObject object) e = refl
  mentioned-below (OfLine place) e =
      let less : level levels place + 1 ≤ limit = grind (arith, nat_tests) in
      raise-each levels (level levels place + 1) limit less (mentions_of legend (OfLine place)) (fall place)

  -- what is mentioned below a limit mentions nothing above it
  stays-below : (steps : ℕ) (listed waits : List Mention) → are_below levels limit listed ≡ true →
      are_below levels limit waits ≡ true
      → are_below levels limit (with_mentioned legend steps listed waits) ≡ true
  stays-below steps listed [] a b = a
  stays-below zero listed (mention ∷ others) a b = a
  stays-below (suc steps) listed (mention ∷ others) a b =
      by (list_any (same_mention mention) listed) refl
      (stays-below steps listed others a there)
      (stays-below steps (listed ++ mention ∷ []) (mentions_of legend mention ++ others)
      (append-below levels limit listed (mention ∷ []) a (and_from _ _ here refl))
      (append-below levels limit (mentions_of legend mention) others (mentioned-below mention here) there))
    where
      here : is_below levels limit mention ≡ true
      here = (and_parts _ _ b).0

      there : are_below levels limit others ≡ true
      there = (and_parts (is_below levels limit mention) _ b).1

      by : (known : Bool) → list_any (same_mention mention) listed ≡ known
          → are_below levels limit (with_mentioned legend steps listed others) ≡ true
          → are_below levels limit (with_mentioned legend steps (listed ++ mention ∷ [])
          (mentions_of legend mention ++ others)) ≡ true
          → are_below levels limit (with_mentioned legend (suc steps) listed (mention ∷ others)) ≡ true
      by true q old new = ap (are_below levels limit) (list-old legend steps mention others listed q) ∙ old
      by false q old new = ap (are_below levels limit) (list-new legend steps mention others listed q) ∙ new

-- a line that mentions only lines of lower levels doesn't stand for itself
pub no-cycle : (legend : List LegendName) (levels : List ℕ) (place : ℕ) (name : LegendName) → Fall legend levels →
    are_below levels (level levels place) name.mentions ≡ true
    → is_on_cycle legend place name ≡ false
no-cycle legend levels place name fall below =
    not-below levels place (all_mentioned legend name.mentions)
    (stays-below legend levels (level levels place) fall (length name.mentions + mention_count legend) []
    name.mentions refl below)

-- one place more
pub one-more : (P : ℕ → Type 0) (k : ℕ) → ((place : ℕ) → place < k → P place) → P k → (place : ℕ) → place < k + 1 →
    P place
one-more P k before here place less = by (nat_eq place k) refl
  where
    by : (b : Bool) → nat_eq place k ≡ b → P place
    by true q = let same : place ≡ k = grind (arith, nat_tests) in rw same here
    by false q = before place (grind (arith, nat_tests))

-- what the line of a place mentions
pub mentions-at : (legend : List code.LegendName) (k : ℕ) (x d : code.LegendName) → k < length legend →
    x ≡ get_or legend k d
    → mentions_of (legend_shown legend) (OfLine k) ≡ mentions_shown x.mentions.items
mentions-at legend k x d less e = ap mentions_of_name (slice_get-map name_shown legend k
    ∙ ap (option_map name_shown) (slice_get-get_or legend k d less ∙ ap Some (sym e)))

-- after the last line nothing is mentioned
pub none-past : (legend : List code.LegendName) (levels : List ℕ) (limit place : ℕ) → length legend ≤ place →
    are_below levels limit (mentions_of (legend_shown legend) (OfLine place)) ≡ true
none-past legend levels limit place past =
    let none : mentions_of (legend_shown legend) (OfLine place) ≡ [] =
    ap mentions_of_name (slice_get_past (legend_shown legend) place (rw length-map past)) in
    ap (are_below levels limit) none

-- where all lines are looked at
pub all-fall : (legend : List code.LegendName) (levels : List ℕ) (k : ℕ) → length legend ≤ k
    → ((place : ℕ) → place < k → are_below levels (level levels place + 1)
    (mentions_of (legend_shown legend) (OfLine place)) ≡ true) → Fall (legend_shown legend) levels
all-fall legend levels k all before place = by (nat_lt place k) refl
  where
    by : (b : Bool) → nat_lt place k ≡ b → are_below levels (level levels place + 1)
        (mentions_of (legend_shown legend) (OfLine place)) ≡ true
    by true q = before place (grind (arith, nat_tests))
    by false q = let past : length legend ≤ place = grind (arith, nat_tests) in
        none-past legend levels (level levels place + 1) place past

no-level : (place : ℕ) → level [] place ≡ 0
no-level place = get_or_past [] place 0 (omega arith)

lowest-below : (place limit : ℕ) → 0 < limit → nat_lt (level [] place) limit ≡ true
lowest-below place limit above = let none : level [] place ≡ 0 = no-level place in let less : level [] place < limit =
    omega arith in grind (arith, nat_tests)

each-below : (limit : ℕ) → 0 < limit → (mentions : List Mention) → are_below [] limit mentions ≡ true
each-below limit above [] = refl
each-below limit above (OfObject object ∷ others) = each-below limit above others
each-below limit above (OfLine place ∷ others) =
    and_from _ _ (lowest-below place limit above) (each-below limit above others)

-- where no line has a level
pub flat-fall : (legend : List LegendName) (levels : List ℕ) → levels ≡ [] → Fall legend levels
flat-fall legend levels none place = rw none (each-below (level [] place + 1) (omega arith)
    (mentions_of legend (OfLine place)))
