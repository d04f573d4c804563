-- Loops over a list of planes: what holds of those passed by, and then of all.
use Rattle.std.proofs.Common.{◌≡◌, ◌∙◌, ℕ, ◌+◌, ◌-◌, ◌*◌, ◌<◌, ◌≤◌, ◌&&◌, inl, inr, Bool, true, List, length, get_or}
use Rattle.std.proofs.Common.{sym, ap, refl, subst, take, arith}
use Rattle.std.specs.Prelude.{nat_eq, nat_lt, slice_get}
use Rattle.std.specs.List.{list_any}
use Rattle.std.proofs.lemmas.Bool.{and_parts, cases_eq, cases_lt, eqb-true, or_cases}
use Rattle.std.proofs.lemmas.List.{take_all}
use Rattle.std.proofs.lemmas.List.Folds.{list_any_more}
use Rattle.ps_rows.specs.Planes.{HavePlanes}
use Rattle.ps_rows.specs.Showing.{motions_from}
use Rattle.std.proofs.lemmas.Option.{slice_get_within}
use Rattle.ps_model.specs.board.Movement.{is_number}
use Rattle.ps_laws.proofs.common.SameThings.{is_number-true}
use Rattle.ps_rows.specs.PlaneCopies.{ArePlanesOf}
use Rattle.ps_rows.proofs.Marks.{listed_at}
use Rattle.ps_rows.proofs.PlaneCopies.{behind_plane, planes_within}

module _ (P : ℕ → Type 0) (planes : List ℕ) (k : ℕ) where
  -- one plane more
  pub passed_one : k < length planes → ((plane : ℕ) → list_any (nat_eq plane) (take k planes) ≡ true → P plane) →
      P (get_or planes k 0) → (plane : ℕ) → list_any (nat_eq plane) (take (k + 1) planes) ≡ true → P plane
  passed_one inside before here plane listed =
      elim (or_cases (list_any (nat_eq plane) (take k planes)) (nat_eq plane (get_or planes k 0))
      (sym (list_any_more (nat_eq plane) planes k 0 inside) ∙ listed)) [
        | inl early ↦ before plane early
        | inr same ↦ subst P (sym (eqb-true plane (get_or planes k 0) same)) here
      ]

  -- and then all
  pub passed_each : length planes ≤ k → ((plane : ℕ) → list_any (nat_eq plane) (take k planes) ≡ true → P plane) →
      (plane : ℕ) → list_any (nat_eq plane) planes ≡ true → P plane
  passed_each end before plane listed =
      before plane (ap (λ (ps : List ℕ). list_any (nat_eq plane) ps) (take_all k planes end) ∙ listed)

-- the plane that is next stands whole in the words
pub next_whole : (height long : ℕ) (words : List (List Bool)) (planes : List ℕ) (k : ℕ) → long ≡ length words →
    k < length planes → HavePlanes height words planes → (get_or planes k 0 + 1) * height ≤ long
next_whole height long words planes k all inside have =
    let enough : (get_or planes k 0 + 1) * height ≤ length words =
    have (get_or planes k 0) (listed_at planes k 0 inside) in
    omega arith

-- orders ----------------------------------------------------------------------------------------------------------

pub own_order : (n : ℕ) → n ≤ n
own_order n = omega arith

pub next_order : (n m : ℕ) → n ≤ m → n ≤ m + 1
next_order n m h = omega arith

pub same_order : (n m : ℕ) → n ≤ m → m ≤ n → n ≡ m
same_order n m h k = omega arith

-- so many planes stand in the words, where some that are no less do
pub planes_enough : (height plane planes long long' : ℕ) → plane ≤ planes → planes * height ≤ long → long' ≡ long →
    plane * height ≤ long'
planes_enough height plane planes long long' order within same =
    let low : plane * height ≤ planes * height = behind_plane height plane planes order in omega arith

pub next_enough : (height plane marked planes long long' : ℕ) → plane < marked → marked ≤ planes →
    planes * height ≤ long → long' ≡ long → (plane + 1) * height ≤ long'
next_enough height plane marked planes long long' below few within same =
    let order : plane + 1 ≤ planes = omega arith in planes_enough height (plane + 1) planes long long' order within same

pub indexed_enough : (height height' count end plane long long' : ℕ) → plane < end → end ≡ count → height' ≡ height →
    long ≡ count * height → long' ≡ long → (plane + 1) * height' ≤ long'
indexed_enough height height' count end plane long long' below all high whole same =
    let few : end ≤ count = omega arith in
    let within : count * height ≤ long = omega arith in
    rw high (next_enough height plane end count long long' below few within same)

-- the words are those of all planes
pub words_whole : (count height long : ℕ) (words : List (List Bool)) → long ≡ length words → long ≡ count * height →
    length words ≤ count * height
words_whole count height long words all whole = omega arith

pub planes_counted : (height planes count long : ℕ) → 0 < height → long ≡ count * height → planes * height ≤ long →
    planes ≤ count
planes_counted height planes count long some whole within =
    let enough : planes * height ≤ count * height = omega arith in planes_within height planes count some enough

-- the planes of objects stand in the words of a board
pub objects_within : (table : List ℕ) (layers height long : ℕ) (words : List (List Bool)) → long ≡ length words →
    long ≡ motions_from table layers * height → length table * height ≤ length words
objects_within table layers height long words all whole =
    let fewer : length table ≤ motions_from table layers = omega arith in
    let less : length table * height ≤ motions_from table layers * height =
    behind_plane height (length table) (motions_from table layers) fewer in
    omega (arith, less)

-- no plane is copied at first
pub none_copied : (height first : ℕ) (source before : List (List Bool)) →
    ArePlanesOf height first first source before before
none_copied height first source before =
    record {
      below = λ plane row under less. refl;
      behind = λ plane row under more. refl;
      copied = λ plane row under low high. absurd (omega arith);
    }

-- and then one plane more
pub planes_more : (height first end : ℕ) (source before between after : List (List Bool)) → first ≤ end →
    ArePlanesOf height first end source before between → ArePlanesOf height end (end + 1) source between after →
    ArePlanesOf height first (end + 1) source before after
planes_more height first end source before between after order was next =
    record {
      below = λ plane row under less.
          let low : plane < end = omega arith in next.below plane row under low ∙ was.below plane row under less;
      behind = λ plane row under more.
          let high : end ≤ plane = omega arith in next.behind plane row under more ∙ was.behind plane row under high;
      copied = λ plane row under from below. elim (cases_lt plane end) [
        | inl early ↦ next.below plane row under early ∙ was.copied plane row under from early
        | inr late ↦ next.copied plane row under late below
      ];
    }

-- layers that are passed by from the last one on
pub layers_more : (P : ℕ → Type 0) (layers step : ℕ) →
    ((layer : ℕ) → layer < layers → layers - step ≤ layer → P layer) → P (layers - 1 - step) → (layer : ℕ) →
    layer < layers → layers - (step + 1) ≤ layer → P layer
layers_more P layers step before here layer low from = elim (cases_eq layer (layers - 1 - step)) [
  | inl e ↦ subst P (sym e) here
  | inr n ↦ let more : layers - step ≤ layer = omega (arith, low, from, n) in before layer low more
]

pub layer_below : (layers step : ℕ) → step < layers → layers - 1 - step < layers
layer_below layers step inside = omega arith

-- the five planes of a layer's motions
pub motion_below : (table : List ℕ) (layers layer first motion : ℕ) → first ≡ motions_from table layer →
    layer < layers → motion < 5 → first + motion < motions_from table layers
motion_below table layers layer first motion is low five = omega arith

module _ (P : ℕ → Type 0) (first motion : ℕ) where
  pub no_motions : (plane : ℕ) → first ≤ plane → plane < first + 0 → P plane
  no_motions plane from below = absurd (omega arith)

  pub motions_more : ((plane : ℕ) → first ≤ plane → plane < first + motion → P plane) → P (first + motion) →
      (plane : ℕ) → first ≤ plane → plane < first + (motion + 1) → P plane
  motions_more before here plane from below = elim (cases_eq plane (first + motion)) [
    | inl e ↦ subst P (sym e) here
    | inr n ↦ let low : plane < first + motion = omega (arith, below, n) in before plane from low
  ]

  pub motions_all : (start : ℕ) → first ≡ start → 5 ≤ motion →
      ((plane : ℕ) → first ≤ plane → plane < first + motion → P plane) → (plane : ℕ) → start ≤ plane →
      plane < start + 5 → P plane
  motions_all start is five before plane from below =
      let after : first ≤ plane = omega (arith, is, from) in
      let low : plane < first + motion = omega (arith, is, five, below) in
      before plane after low

-- an object that stands on a layer has a plane
pub held_plane : (table : List ℕ) (layers object layer : ℕ) (on : Bool) →
    on ≡ (nat_lt layer layers && is_number (slice_get table object) layer) → on ≡ true →
    object < motions_from table layers
held_plane table layers object layer on is told =
    let parts = and_parts (nat_lt layer layers) (is_number (slice_get table object) layer) (sym is ∙ told) in
    let within : object < length table =
    slice_get_within table object layer (is_number-true (slice_get table object) layer parts.1) in
    omega arith

-- a row of so many, from the first one on
pub row_there : (first count k height : ℕ) → first + count ≤ height → k < count → first + k < height
row_there first count k height all low = omega arith
