-- Who wins a cell, and which objects slide.
use Rattle.std.proofs.Common.{◌≡◌, ◌≢◌, ℕ, suc, zero, ◌+◌, ◌<◌, ◌≤◌, ◌&&◌, ◌⊎◌, inl, inr, Bool, true, false, cond}
use Rattle.std.proofs.Common.{Option, Some, None, refl, ◌∙◌, ap, arith}
use Rattle.std.specs.Prelude.{nat_lt, find}
use Rattle.std.specs.Option.{option_or}
use Rattle.std.specs.List.{range_with_len}
use Rattle.std.proofs.lemmas.Bool.Decides.{nat_tests, eqb_tells}
use Rattle.std.proofs.lemmas.Bool.{ltb-true, and_parts, false_from_ne_true}
use Rattle.ps_model.specs.board.Grid.{Grid, cell_count}
use Rattle.ps_model.specs.board.Movement.{target, is_bare, is_number, least_contender, winner, slides_within}
use Rattle.ps_laws.proofs.common.SameThings.{is_number-true, is_number-own}

-- the first number of a range that passes
find_first : (p : ℕ → Bool) (a n c : ℕ) → a ≤ c → c < a + n → p c ≡ true → ((s : ℕ) → s < c → p s ≡ false) →
    find p (range_with_len a n) ≡ Some c
find_first p a zero c low high passing bars = absurd (omega arith)
find_first p a (suc n) c low high passing bars = elim (eqb_tells a c) [
  | inl e ↦ let here : p a ≡ true = rw e.1 passing in rw here (ap Some e.1)
  | inr e ↦ let not_here : p a ≡ false = bars a (omega (arith, e.1)) in
      rw not_here (find_first p (a + 1) n c (omega (arith, e.1)) (omega arith) passing bars)
]

find_none : (p : ℕ → Bool) (a n : ℕ) → ((s : ℕ) → p s ≡ false) → find p (range_with_len a n) ≡ None
find_none p a zero bars = refl
find_none p a (suc n) bars = let not_here : p a ≡ false = bars a in rw not_here (find_none p (a + 1) n bars)

found_here : (p : ℕ → Bool) (a c : ℕ) (b : Bool) (rest : Option ℕ) → cond b (Some a) rest ≡ Some c →
    ((b ≡ true) × (a ≡ c)) ⊎ (rest ≡ Some c)
found_here p a c true rest e = inl (refl, cc)
found_here p a c false rest e = inr e

-- what is found passes, and is of the range
find_passes : (p : ℕ → Bool) (a n c : ℕ) → find p (range_with_len a n) ≡ Some c → (p c ≡ true) × (c < a + n)
find_passes p a zero c e = absurd (cc)
find_passes p a (suc n) c e = elim (found_here p a c (p a) (find p (range_with_len (a + 1) n)) e) [
  | inl f ↦ let here : p c ≡ true = rw (← f.1) f.0 in (here, omega (arith, f.1))
  | inr f ↦ let more = find_passes p (a + 1) n c f in (more.0, omega (arith, more.1))
]

passes-false : (a b : Bool) → (a ≡ true → b ≡ true → ⊥) → (a && b) ≡ false
passes-false true b bars = false_from_ne_true b (bars refl)
passes-false false b bars = refl

-- the least contender that passes
least-is : (g : Grid) (layer cell : ℕ) (passes : ℕ → Bool) (c : ℕ) → c < cell_count g → target g layer c ≡ Some cell →
    passes c ≡ true →
    ((s : ℕ) → target g layer s ≡ Some cell → passes s ≡ true → c ≤ s) → least_contender g layer cell passes ≡ Some c
least-is g layer cell passes c within aims passing least =
    let p : ℕ → Bool = λ from. is_number (target g layer from) cell && passes from in
    let here : p c ≡ true = rw (is_number-own (target g layer c) cell aims) passing in
    let below : (s : ℕ) → s < c → p s ≡ false = λ (s : ℕ) (low : s < c).
    passes-false (is_number (target g layer s) cell) (passes s)
    (λ (n : is_number (target g layer s) cell ≡ true) (y : passes s ≡ true). let l =
    least s (is_number-true (target g layer s) cell n) y in absurd (omega arith)) in
    find_first p 0 (cell_count g) c (omega arith) (omega arith) here below

least-none : (g : Grid) (layer cell : ℕ) (passes : ℕ → Bool) →
    ((s : ℕ) → target g layer s ≡ Some cell → passes s ≡ true → ⊥) → least_contender g layer cell passes ≡ None
least-none g layer cell passes bars = find_none (λ from.
    is_number (target g layer from) cell && passes from) 0 (cell_count g)
    (λ (s : ℕ). passes-false (is_number (target g layer s) cell) (passes s)
    (λ (n : is_number (target g layer s) cell ≡ true). bars s (is_number-true (target g layer s) cell n)))

least-contends : (g : Grid) (layer cell : ℕ) (passes : ℕ → Bool) (c : ℕ) →
    least_contender g layer cell passes ≡ Some c → (target g layer c ≡ Some cell) × (c < cell_count g)
least-contends g layer cell passes c e =
    let found = find_passes (λ from. is_number (target g layer from) cell && passes from) 0 (cell_count g) c e in
    let both = and_parts (is_number (target g layer c) cell) (passes c) found.0 in
    (is_number-true (target g layer c) cell both.0, omega (arith, found.1))

either : (g : Grid) (layer cell : ℕ) (p q : ℕ → Bool) (c : ℕ) (o : Option ℕ) → least_contender g layer cell p ≡ o →
    option_or o (least_contender g layer cell q) ≡ Some c →
    (target g layer c ≡ Some cell) × (c < cell_count g)
either g layer cell p q c None e f = least-contends g layer cell q c f
either g layer cell p q c (Some n) e f = least-contends g layer cell p c (e ∙ f)

-- the winner of a cell wants to go there
pub winner-contends : (g : Grid) (layer cell c : ℕ) → winner g layer cell ≡ Some c →
    (target g layer c ≡ Some cell) × (c < cell_count g)
winner-contends g layer cell c e = contends (is_bare g layer cell) e where
  contends : (b : Bool) → elim b [
    | true ↦ least_contender g layer cell (λ from. true)
    | false ↦ option_or (least_contender g layer cell (nat_lt cell)) (least_contender g layer cell (λ from. true))
  ] ≡ Some c → (target g layer c ≡ Some cell) × (c < cell_count g)
  contends true f = least-contends g layer cell (λ from. true) c f
  contends false f = either g layer cell (nat_lt cell) (λ from.
      true) c (least_contender g layer cell (nat_lt cell)) refl f

-- of the contenders of a bare cell the least wins
pub winner-of_bare : (g : Grid) (layer cell c : ℕ) → is_bare g layer cell ≡ true → c < cell_count g →
    target g layer c ≡ Some cell →
    ((s : ℕ) → target g layer s ≡ Some cell → c ≤ s) → winner g layer cell ≡ Some c
winner-of_bare g layer cell c bare within aims least =
    rw (bare, winner) (least-is g layer cell (λ from. true) c within aims refl (λ s a y. least s a))

not_under : (a b c d : ℕ) → (a < b → c < d) → d ≤ c → b ≤ a
not_under a b c d h k = grind arith

-- of the contenders of a cell that is left, the next above it wins, and the least if none is above
pub winner-of_left : (g : Grid) (layer cell c : ℕ) → is_bare g layer cell ≡ false → c < cell_count g →
    target g layer c ≡ Some cell → c ≢ cell →
    ((s : ℕ) → target g layer s ≡ Some cell → s < c → s < cell) →
    ((s : ℕ) → target g layer s ≡ Some cell → s < c → cell < c) →
    ((s : ℕ) → target g layer s ≡ Some cell → c ≤ cell → s < cell) → winner g layer cell ≡ Some c
winner-of_left g layer cell c bare within aims apart behind over ahead =
    rw (bare, winner) (next (nat_lt cell c) refl) where
      next : (b : Bool) → nat_lt cell c ≡ b → option_or (least_contender g layer cell (nat_lt cell))
          (least_contender g layer cell (λ from. true)) ≡ Some c
      next true e =
          let first : least_contender g layer cell (nat_lt cell) ≡ Some c =
          least-is g layer cell (nat_lt cell) c within aims e
          (λ s a y. let higher = ltb-true cell s y in not_under s c s cell (behind s a) (omega arith)) in
          rw first refl
      next false e =
          let not_above : c ≤ cell = grind (arith, nat_tests, e) in
          let none : least_contender g layer cell (nat_lt cell) ≡ None = least-none g layer cell (nat_lt cell)
          (λ s a y. let higher = ltb-true cell s y in let below = ahead s a not_above in omega arith) in
          let first : least_contender g layer cell (λ from. true) ≡ Some c =
          least-is g layer cell (λ from. true) c within aims refl
          (λ s a y. not_under s c cell c (over s a) not_above) in
          rw none first

-- one link more: to a bare cell, or to one whose object slides
pub record IsLink (g : Grid) (layer links cell : ℕ) : Type 0 where
  pub to : ℕ
  pub aims : target g layer cell ≡ Some to
  pub wins : winner g layer to ≡ Some cell
  pub leads : (is_bare g layer to ≡ true) ⊎ ((is_bare g layer to ≡ false) × (slides_within g layer links to ≡ true))

leads_on : (bare further : Bool) → elim bare [ true ↦ true | false ↦ further ] ≡ true →
    (bare ≡ true) ⊎ ((bare ≡ false) × (further ≡ true))
leads_on true further e = inl refl
leads_on false further e = inr (refl, e)

won_on : (won on : Bool) → elim won [ false ↦ false | true ↦ on ] ≡ true → (won ≡ true) × (on ≡ true)
won_on true on e = (refl, e)
won_on false on e = absurd (cc)

aims_on : (o : Option ℕ) (on : ℕ → Bool) → elim o [ None ↦ false | Some to ↦ on to ] ≡ true →
    (to : ℕ) × (o ≡ Some to) × (on to ≡ true)
aims_on None on e = absurd (cc)
aims_on (Some to) on e = (to, refl, e)

-- a chain of links has a first one
pub link_of : (g : Grid) (layer links cell : ℕ) → slides_within g layer (suc links) cell ≡ true →
    IsLink g layer links cell
link_of g layer links cell e =
    let found = aims_on (target g layer cell) (λ to. elim (is_number (winner g layer to) cell) [
      | false ↦ false
      | true ↦ elim (is_bare g layer to) [ true ↦ true | false ↦ slides_within g layer links to ]
    ]) e in
    let won = won_on (is_number (winner g layer found.0) cell)
    (elim (is_bare g layer found.0) [ true ↦ true | false ↦ slides_within g layer links found.0 ]) found.2 in
    record {
      to = found.0;
      aims = found.1;
      wins = is_number-true (winner g layer found.0) cell won.0;
      leads =
          leads_on (is_bare g layer found.0) (slides_within g layer links found.0) won.1;
    }

-- and a link makes a chain
pub slides_by : (g : Grid) (layer links cell : ℕ) → IsLink g layer links cell →
    slides_within g layer (suc links) cell ≡ true
slides_by g layer links cell h =
    let won : is_number (winner g layer h.to) cell ≡ true = is_number-own (winner g layer h.to) cell h.wins in
    elim h.leads [
      | inl bare ↦ rw (slides_within, h.aims, won, bare) refl
      | inr further ↦ rw (slides_within, h.aims, won, further.0) further.1
    ]

-- more links do no harm
pub slides_within-more : (g : Grid) (layer few many cell : ℕ) → few ≤ many → slides_within g layer few cell ≡ true →
    slides_within g layer many cell ≡ true
slides_within-more g layer zero many cell h e = absurd (cc)
slides_within-more g layer (suc few) zero cell h e = absurd (omega arith)
slides_within-more g layer (suc few) (suc many) cell h e =
    let l = link_of g layer few cell e in
    slides_by g layer many cell (elim l.leads [
      | inl bare ↦ record { to = l.to; aims = l.aims; wins = l.wins; leads = inl bare }
      | inr further ↦ record {
        to = l.to;
        aims = l.aims;
        wins = l.wins;
        leads =
            inr (further.0, slides_within-more g layer few many l.to (omega arith) further.1);
      }
    ])
