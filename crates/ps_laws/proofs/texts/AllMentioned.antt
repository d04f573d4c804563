-- What a list of all that is mentioned has: the mentions themselves, and with each legend line all that the line
-- mentions. The steps in which it is made are enough, since the mentions of a line are added once at most.
use Rattle.std.proofs.Common.{◌≡◌, ℕ, zero, suc, ◌+◌, ◌≤◌, ◌||◌, ◌⊎◌, inl, inr, Bool, true, false, cond, List, [], ◌∷◌}
use Rattle.std.proofs.Common.{◌++◌, length, refl, sym, ap, ◌∙◌, arith}
use mathlib.Core.Path.{subst}
use Rattle.std.specs.Prelude.{slice_get}
use Rattle.std.specs.List.{list_any}
use Rattle.std.proofs.lemmas.Bool.{eqb-true, or_cases, eq-eqb}
use Rattle.std.proofs.lemmas.List.{length-append}
use Rattle.std.proofs.lemmas.List.Folds.{list_any-append}
use Rattle.std.proofs.lemmas.List.Sums.{sum_by-cons}
use Rattle.std.proofs.Math.Bool.{or-true}
use Rattle.ps_model.specs.names.Meanings.{LegendName, Mention, OfObject, OfLine, same_mention, mentions_of}
use Rattle.ps_model.specs.names.Meanings.{mentions_of_name, with_mentioned, all_mentioned, mention_count}
use Rattle.ps_laws.proofs.common.Truths.{impossible}

-- the legend line of the place is on the list
abbrev pub has : List Mention → ℕ → Bool
has listed place = list_any (same_mention (OfLine place)) listed

in-front : (front back : List Mention) (place : ℕ) → has front place ≡ true → has (front ++ back) place ≡ true
in-front front back place e = list_any-append (same_mention (OfLine place)) front back
    ∙ ap (λ (b : Bool). b || has back place) e

in-back : (front back : List Mention) (place : ℕ) → has back place ≡ true → has (front ++ back) place ≡ true
in-back front back place e = list_any-append (same_mention (OfLine place)) front back
    ∙ ap (λ (b : Bool). has front place || b) e ∙ or-true (has front place)

in-either : (front back : List Mention) (place : ℕ) → has (front ++ back) place ≡ true →
    (has front place ≡ true) ⊎ (has back place ≡ true)
in-either front back place e = or_cases (has front place) (has back place)
    (sym (list_any-append (same_mention (OfLine place)) front back) ∙ e)

is-first : (mention : Mention) (others : List Mention) (place : ℕ) → same_mention (OfLine place) mention ≡ true →
    has (mention ∷ others) place ≡ true
is-first mention others place e = ap (λ (b : Bool). b || has others place) e

is-only : (mention : Mention) (place : ℕ) → has (mention ∷ []) place ≡ true → same_mention (OfLine place) mention ≡ true
is-only mention place e = elim (or_cases (same_mention (OfLine place) mention) false e)
    [ inl h ↦ h | inr h ↦ impossible h ]

-- mentions of lines that aren't listed --------------------------------------------------------------------------------

-- how many mentions the lines have that aren't on the list, lines numbered from a number on
abbrev unlisted : List Mention → ℕ → List LegendName → ℕ
unlisted listed number [] = 0
unlisted listed number (name ∷ names) = cond (has listed number) 0 (length name.mentions) + unlisted listed
    (suc number) names

unlisted-all : (number : ℕ) (names : List LegendName) → unlisted [] number names ≡ mention_count names
unlisted-all number [] = refl
unlisted-all number (name ∷ names) =
    ap (λ (n : ℕ). length name.mentions + n) (unlisted-all (suc number) names)
    ∙ sym (sum_by-cons (λ (name : LegendName). length name.mentions) name names)

cond-less : (a b : Bool) (n : ℕ) → cond (a || b) 0 n ≤ cond a 0 n
cond-less true b n = omega arith
cond-less false true n = omega arith
cond-less false false n = omega arith

one-less : (listed : List Mention) (mention : Mention) (number n : ℕ) →
    cond (has (listed ++ mention ∷ []) number) 0 n ≤ cond (has listed number) 0 n
one-less listed mention number n =
    subst (λ (b : Bool). cond b 0 n ≤ cond (has listed number) 0 n)
    (sym (list_any-append (same_mention (OfLine number)) listed (mention ∷ [])))
    (cond-less (has listed number) (has (mention ∷ []) number) n)

unlisted-less : (listed : List Mention) (mention : Mention) (number : ℕ) (names : List LegendName) →
    unlisted (listed ++ mention ∷ []) number names ≤ unlisted listed number names
unlisted-less listed mention number [] = omega arith
unlisted-less listed mention number (name ∷ names) =
    omega (
      arith,
      one-less listed mention number (length name.mentions),
      unlisted-less listed mention (suc number) names,
    )

line-less : (listed : List Mention) (number step place : ℕ) (names : List LegendName) → place ≡ number + step →
    has listed place ≡ false →
    unlisted (listed ++ OfLine place ∷ []) number names + length (mentions_of_name (slice_get names step)) ≤ unlisted
    listed number names
line-less listed number step place [] e none = omega arith
line-less listed number zero place (name ∷ names) e none =
    let here : number ≡ place = omega arith in
    let now : has (listed ++ OfLine place ∷ []) number ≡ true =
    in-back listed (OfLine place ∷ []) number (is-first (OfLine place) [] number (eq-eqb number place here)) in
    let before : has listed number ≡ false = ap (has listed) here ∙ none in
    let gone : cond (has (listed ++ OfLine place ∷ []) number) 0 (length name.mentions) ≡ 0 =
    ap (λ (b : Bool). cond b 0 (length name.mentions)) now in
    let counted : cond (has listed number) 0 (length name.mentions) ≡ length name.mentions =
    ap (λ (b : Bool). cond b 0 (length name.mentions)) before in
    omega (arith, gone, counted, unlisted-less listed (OfLine place) (suc number) names)
line-less listed number (suc step) place (name ∷ names) e none =
    omega (
      arith,
      one-less listed (OfLine place) number (length name.mentions),
      line-less listed (suc number) step place names (omega arith) none,
    )

mention-less : (legend : List LegendName) (listed : List Mention) (mention : Mention) →
    list_any (same_mention mention) listed ≡ false →
    unlisted (listed ++ mention ∷ []) 0 legend + length (mentions_of legend mention) ≤ unlisted listed 0 legend
mention-less legend listed (OfObject object) none = omega (arith, unlisted-less listed (OfObject object) 0 legend)
mention-less legend listed (OfLine place) none = line-less listed 0 place place legend (omega arith) none

-- the list ------------------------------------------------------------------------------------------------------------

-- what is listed stays, what waits is listed, and what each listed line mentions
pub record Lists (legend : List LegendName) (listed waits all : List Mention) : Type 0 where
  pub stays : (place : ℕ) → has listed place ≡ true → has all place ≡ true
  pub comes : (place : ℕ) → has waits place ≡ true → has all place ≡ true
  pub closed : (place mentioned : ℕ) → has all place ≡ true →
      has (mentions_of legend (OfLine place)) mentioned ≡ true → has all mentioned ≡ true

-- what each listed line mentions is listed, or waits
abbrev Follows : List LegendName → List Mention → List Mention → Type 0
Follows legend listed waits =
    (place mentioned : ℕ) → has listed place ≡ true → has (mentions_of legend (OfLine place)) mentioned ≡ true →
    (has listed mentioned ≡ true) ⊎ (has waits mentioned ≡ true)

same-listed : (listed : List Mention) (mention : Mention) (place : ℕ) → same_mention (OfLine place) mention ≡ true →
    list_any (same_mention mention) listed ≡ true → has listed place ≡ true
same-listed listed (OfObject object) place e h = impossible e
same-listed listed (OfLine other) place e h = ap (has listed) (eqb-true place other e) ∙ h

same-mentions : (legend : List LegendName) (mention : Mention) (place mentioned : ℕ) →
    same_mention (OfLine place) mention ≡ true → has (mentions_of legend (OfLine place)) mentioned ≡ true →
    has (mentions_of legend mention) mentioned ≡ true
same-mentions legend (OfObject object) place mentioned e h = impossible e
same-mentions legend (OfLine other) place mentioned e h =
    subst (λ (n : ℕ). has (mentions_of legend (OfLine n)) mentioned ≡ true) (eqb-true place other e) h

by_test : {A : Type 0} (P : A → Type 0) (test : Bool) (first second : A) → (test ≡ true → P first) →
    (test ≡ false → P second) → P (elim test [ true ↦ first | false ↦ second ])
by_test P true first second f g = f refl
by_test P false first second f g = g refl

module _ (legend : List LegendName) (listed : List Mention) (mention : Mention) (others : List Mention) where
  -- one that is listed already
  follows-again : list_any (same_mention mention) listed ≡ true → Follows legend listed (mention ∷ others) →
      Follows legend listed others
  follows-again e follows place mentioned h k = elim (follows place mentioned h k) [
    | inl there ↦ inl there
    | inr waits ↦ elim (or_cases (same_mention (OfLine mentioned) mention) (has others mentioned) waits) [
      | inl same ↦ inl (same-listed listed mention mentioned same e)
      | inr behind ↦ inr behind
    ]
  ]

  lists-again : (all : List Mention) → list_any (same_mention mention) listed ≡ true → Lists legend listed others all →
      Lists legend listed (mention ∷ others) all
  lists-again all e lists = record {
    stays = lists.stays;
    comes = λ place h. elim (or_cases (same_mention (OfLine place) mention) (has others place) h) [
      | inl same ↦ lists.stays place (same-listed listed mention place same e)
      | inr behind ↦ lists.comes place behind
    ];
    closed = lists.closed;
  }

  -- one that isn't
  follows-anew : Follows legend listed (mention ∷ others) →
      Follows legend (listed ++ mention ∷ []) (mentions_of legend mention ++ others)
  follows-anew follows place mentioned h k = elim (in-either listed (mention ∷ []) place h) [
    | inl old ↦ elim (follows place mentioned old k) [
      | inl there ↦ inl (in-front listed (mention ∷ []) mentioned there)
      | inr waits ↦ elim (or_cases (same_mention (OfLine mentioned) mention) (has others mentioned) waits) [
        | inl same ↦ inl (in-back listed (mention ∷ []) mentioned (is-first mention [] mentioned same))
        | inr behind ↦ inr (in-back (mentions_of legend mention) others mentioned behind)
      ]
    ]
    | inr new ↦ inr (in-front (mentions_of legend mention) others mentioned
        (same-mentions legend mention place mentioned (is-only mention place new) k))
  ]

  lists-anew : (all : List Mention) → Lists legend (listed ++ mention ∷ []) (mentions_of legend mention ++ others) all
      → Lists legend listed (mention ∷ others) all
  lists-anew all lists = record {
    stays = λ place h. lists.stays place (in-front listed (mention ∷ []) place h);
    comes = λ place h. elim (or_cases (same_mention (OfLine place) mention) (has others place) h) [
      | inl same ↦ lists.stays place (in-back listed (mention ∷ []) place (is-first mention [] place same))
      | inr behind ↦ lists.comes place (in-back (mentions_of legend mention) others place behind)
    ];
    closed = lists.closed;
  }

  -- one step less is enough for what waits then
  few-anew : (steps : ℕ) → list_any (same_mention mention) listed ≡ false →
      length (mention ∷ others) + unlisted listed 0 legend ≤ suc steps →
      length (mentions_of legend mention ++ others) + unlisted (listed ++ mention ∷ []) 0 legend ≤ steps
  few-anew steps none few = omega (
    arith,
    length-append (mentions_of legend mention) others,
    mention-less legend listed mention none,
    few,
  )

lists : (legend : List LegendName) (steps : ℕ) (listed waits : List Mention) →
    length waits + unlisted listed 0 legend ≤ steps → Follows legend listed waits →
    Lists legend listed waits (with_mentioned legend steps listed waits)
lists legend steps listed [] few follows = record {
  stays = λ place h. h;
  comes = λ place h. impossible h;
  closed = λ place mentioned h k. elim (follows place mentioned h k)
      [ inl there ↦ there | inr waits ↦ impossible waits ];
}
lists legend zero listed (mention ∷ others) few follows = absurd (omega arith)
lists legend (suc steps) listed (mention ∷ others) few follows =
    by_test (Lists legend listed (mention ∷ others)) (list_any (same_mention mention) listed)
    (with_mentioned legend steps listed others)
    (with_mentioned legend steps (listed ++ mention ∷ []) (mentions_of legend mention ++ others))
    (λ e. lists-again legend listed mention others (with_mentioned legend steps listed others) e
    (lists legend steps listed others (omega (arith, few)) (follows-again legend listed mention others e follows)))
    (λ e. lists-anew legend listed mention others
    (with_mentioned legend steps (listed ++ mention ∷ []) (mentions_of legend mention ++ others))
    (lists legend steps (listed ++ mention ∷ []) (mentions_of legend mention ++ others)
    (few-anew legend listed mention others steps e few) (follows-anew legend listed mention others follows)))

-- all that is mentioned is listed
pub all_mentioned-lists : (legend : List LegendName) (mentions : List Mention) →
    Lists legend [] mentions (all_mentioned legend mentions)
all_mentioned-lists legend mentions =
    lists legend (length mentions + mention_count legend) [] mentions (omega (arith, unlisted-all 0 legend))
    (λ place mentioned h k. impossible h)
