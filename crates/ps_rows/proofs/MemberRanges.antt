-- The lists of the objects of layers, and how they are made.
use Rattle.std.proofs.Common.{◌≡◌, ℕ, ◌+◌, ◌-◌, ◌<◌, ◌≤◌, inl, inr, Bool, true, false, cond, Some, List, [], ◌∷◌, ◌++◌}
use Rattle.std.proofs.Common.{length, get_or, map, take, drop, refl, sym, ap, subst, ◌∙◌, arith, filter, append_assoc}
use Rattle.std.specs.Prelude.{if◌then◌else◌, nat_eq, nat_lt, slice_get, slice_range}
use Rattle.std.specs.List.{list_any, range_with_len}
use Rattle.std.proofs.lemmas.Bool.{cases_lt, false_from_ne_true}
use Rattle.std.proofs.lemmas.List.{drop_more, get_or-map, map-id, length-append, length-drop, get_or_append_left, get_or_push, drop-append-le}
use Rattle.std.proofs.lemmas.List.{take-append-le, drop_at, take_all}
use Rattle.std.proofs.lemmas.List.Elements.{filter-append}
use Rattle.std.proofs.lemmas.List.FromFn.{map-range_with_len_more}
use Rattle.std.proofs.lemmas.Option.{same_Some, slice_get_within, slice_get-get_or}
use Rattle.ps_model.specs.board.Movement.{is_number}
use Rattle.ps_laws.proofs.common.SameThings.{is_number-true, is_number-own}
use Rattle.ps_rows.specs.declared.members.MemberRange.{MemberRange}
use Rattle.ps_rows.specs.declared.members.TheConstants.{SEVERAL_MEMBERS}
use Rattle.ps_rows.specs.Members.{on_layer, on_layer_below, short_range, IsRangeOf, AreRangesOf}
use Rattle.ps_rows.proofs.Listed.{listed_passes, listed_range}

-- an object is listed with its layer, and with no other
pub member_listed : (table : List ℕ) (layer object : ℕ) → slice_get table object ≡ Some layer →
    list_any (nat_eq object) (on_layer table layer) ≡ true
unfolding on_layer on_layer_below
member_listed table layer object h =
    let below : object < length table = slice_get_within table object layer h in
    listed_range (λ o. is_number (slice_get table o) layer) 0 (length table) object (omega arith) (omega arith)
    (is_number-own (slice_get table object) layer h)

pub listed_member : (table : List ℕ) (layer object : ℕ) → list_any (nat_eq object) (on_layer table layer) ≡ true →
    slice_get table object ≡ Some layer
unfolding on_layer on_layer_below
listed_member table layer object h =
    is_number-true (slice_get table object) layer
    (listed_passes (λ o. is_number (slice_get table o) layer) (range_with_len 0 (length table)) object h)

pub not_listed : (table : List ℕ) (layer object : ℕ) → (slice_get table object ≡ Some layer → ⊥) →
    list_any (nat_eq object) (on_layer table layer) ≡ false
not_listed table layer object n = false_from_ne_true (list_any (nat_eq object) (on_layer table layer)) (λ h.
    n (listed_member table layer object h))

-- the list of one object more
pub below_none : (table : List ℕ) (layer : ℕ) → on_layer_below table layer 0 ≡ []
unfolding on_layer_below
below_none table layer = refl

pub below_all : (table : List ℕ) (layer : ℕ) → on_layer_below table layer (length table) ≡ on_layer table layer
unfolding on_layer
below_all table layer = refl

range_more : (n : ℕ) → range_with_len 0 (n + 1) ≡ range_with_len 0 n ++ n ∷ []
range_more n =
    sym (map-id (range_with_len 0 (n + 1))) ∙ map-range_with_len_more (λ (x : ℕ). x) 0 n n (omega arith)
    ∙ ap (λ (r : List ℕ). r ++ n ∷ []) (map-id (range_with_len 0 n))

pub below_more : (table : List ℕ) (layer n : ℕ) → n < length table →
    on_layer_below table layer (n + 1) ≡ on_layer_below table layer n ++ cond (nat_eq (get_or table n 0) layer)
    (n ∷ []) []
unfolding on_layer_below
below_more table layer n h =
    let passes : ℕ → Bool = λ o. is_number (slice_get table o) layer in
    let own : is_number (slice_get table n) layer ≡ nat_eq (get_or table n 0) layer =
    rw (slice_get-get_or table n 0 h) refl in
    ap (filter passes) (range_more n) ∙ filter-append passes (range_with_len 0 n) (n ∷ [])
    ∙ ap (λ (b : Bool). filter passes (range_with_len 0 n) ++ cond b (n ∷ []) []) own

-- one step of the loop over the objects
pub members_more : (numbers old more table : List ℕ) (layer n : ℕ) →
    more ≡ numbers ++ cond (nat_eq (get_or table n 0) layer) (n ∷ []) [] →
    numbers ≡ old ++ on_layer_below table layer n → n < length table → more ≡ old ++ on_layer_below table layer (n + 1)
members_more numbers old more table layer n e f h =
    let one : List ℕ = cond (nat_eq (get_or table n 0) layer) (n ∷ []) [] in
    e ∙ ap (λ (ns : List ℕ). ns ++ one) f ∙ append_assoc old (on_layer_below table layer n) one
    ∙ ap (λ (ns : List ℕ). old ++ ns) (sym (below_more table layer n h))

pub members_all : (numbers old table : List ℕ) (layer n : ℕ) → numbers ≡ old ++ on_layer_below table layer n →
    n ≡ length table → numbers ≡ old ++ on_layer table layer
members_all numbers old table layer n f e = f ∙ ap (λ (k : ℕ). old ++ on_layer_below table layer k) e
    ∙ ap (λ (ns : List ℕ). old ++ ns) (below_all table layer)

-- a range stays one where numbers are added
range_stays : (table numbers more : List ℕ) (layer : ℕ) (range : MemberRange) → IsRangeOf table numbers layer range →
    IsRangeOf table (numbers ++ more) layer range
range_stays table numbers more layer range s =
    let order : range.start ≤ range.end = s.order in
    let within : range.end ≤ length numbers = s.within in
    let long : length (numbers ++ more) ≡ length numbers + length more = length-append numbers more in
    let enough : range.end - range.start ≤ length (drop range.start numbers) = rw length-drop (omega arith) in
    let start : range.start ≤ length numbers = omega arith in
    let cut : slice_range (numbers ++ more) range.start range.end ≡ slice_range numbers range.start range.end =
    ap (take (range.end - range.start)) (drop-append-le range.start numbers more start)
    ∙ take-append-le (range.end - range.start) (drop range.start numbers) more enough in
    record {
      order = order;
      within = omega arith;
      objects = cut ∙ s.objects;
    }

-- the range of what was added last
range_added : (table numbers : List ℕ) (layer : ℕ) (range : MemberRange) → range.start ≡ length numbers →
    range.end ≡ length (numbers ++ on_layer table layer) →
    IsRangeOf table (numbers ++ on_layer table layer) layer range
range_added table numbers layer range a b =
    let added : List ℕ = on_layer table layer in
    let long : length (numbers ++ added) ≡ length numbers + length added = length-append numbers added in
    let size : length added ≤ range.end - range.start = omega arith in
    record {
      order = omega arith;
      within = omega arith;
      objects = ap (take (range.end - range.start)) (drop_at numbers added range.start (sym a))
          ∙ take_all (range.end - range.start) added size;
    }

-- one layer more has its range
pub ranges_more : (table numbers more : List ℕ) (ranges longer : List MemberRange) (layer : ℕ) (range : MemberRange) →
    AreRangesOf table numbers ranges → layer ≡ length ranges →
    longer ≡ ranges ++ range ∷ [] → more ≡ numbers ++ on_layer table layer → range.start ≡ length numbers →
    range.end ≡ length more → AreRangesOf table more longer
ranges_more table numbers more ranges longer layer range each long e f a b =
    rw (e, f) (λ k d below.
    let total : length (ranges ++ range ∷ []) ≡ length ranges + 1 = length-append ranges (range ∷ []) in
    elim (cases_lt k (length ranges)) [
      | inl old ↦ rw (get_or_append_left ranges (range ∷ []) d k old)
          (range_stays table numbers (on_layer table layer) k (get_or ranges k d) (each k d old))
      | inr new ↦
          let last : k ≡ layer = omega arith in
          let end : range.end ≡ length (numbers ++ on_layer table layer) = b ∙ ap length f in
          rw (get_or_push ranges range d k (omega arith), last) (range_added table numbers layer range a end)
    ])

-- the range of a layer
pub range_at : (table numbers : List ℕ) (ranges : List MemberRange) (n layer : ℕ) (range : MemberRange) →
    AreRangesOf table numbers ranges → n ≡ length ranges → layer < n →
    range ≡ get_or ranges layer range → IsRangeOf table numbers layer range
range_at table numbers ranges n layer range each long below is =
    let P : MemberRange → Type 0 = λ s. IsRangeOf table numbers layer s in
    let inside : layer < length ranges = omega arith in
    subst P (sym is) (each layer range inside)

-- the range of one number
pub one_range : (numbers : List ℕ) (place object : ℕ) → slice_get numbers place ≡ Some object →
    slice_range numbers place (place + 1) ≡ object ∷ []
one_range numbers place object e =
    let inside : place < length numbers = slice_get_within numbers place object e in
    let one : place + 1 - place ≡ 1 = omega arith in
    let is : get_or numbers place 0 ≡ object = same_Some (get_or numbers place 0) object
    (sym (slice_get-get_or numbers place 0 inside) ∙ e) in
    ap (λ (n : ℕ). take n (drop place numbers)) one ∙ ap (take 1) (drop_more numbers place 0 inside)
    ∙ ap (λ (y : ℕ). y ∷ []) is

-- a range that is shortened is within the list, and has all objects of the layer where it isn't empty
pub record IsShortRangeOf (table numbers : List ℕ) (layer : ℕ) (range : MemberRange) : Type 0 where
  pub order : range.start ≤ range.end
  pub within : range.end ≤ length numbers
  pub objects : range.start < range.end → slice_range numbers range.start range.end ≡ on_layer table layer

short_by : (table numbers : List ℕ) (layer : ℕ) (range : MemberRange) (few : Bool) → IsRangeOf table numbers layer range →
    IsShortRangeOf table numbers layer (if few then range else record { start = range.start; end = range.start })
short_by table numbers layer range true whole =
    record { order = whole.order; within = whole.within; objects = λ some. whole.objects }
short_by table numbers layer range false whole =
    let order : range.start ≤ range.end = whole.order in
    let within : range.end ≤ length numbers = whole.within in
    record {
      order = omega arith;
      within = omega (arith, order, within);
      objects = λ some. absurd (omega (arith, some));
    }

pub short_at : (table numbers : List ℕ) (ranges short : List MemberRange) (layer : ℕ) (range : MemberRange) →
    AreRangesOf table numbers ranges → short ≡ map short_range ranges → layer < length ranges →
    range ≡ get_or short layer range → IsShortRangeOf table numbers layer range
short_at table numbers ranges short layer range each made inside is =
    let whole : MemberRange = get_or ranges layer range in
    let P : MemberRange → Type 0 = λ r. IsShortRangeOf table numbers layer r in
    subst P
    (sym (is ∙ ap (λ (rs : List MemberRange). get_or rs layer range) made
    ∙ get_or-map short_range ranges layer range range inside))
    (short_by table numbers layer whole (nat_lt (whole.end - whole.start) SEVERAL_MEMBERS) (each layer range inside))

-- without ranges
pub no_ranges : (table numbers : List ℕ) (ranges : List MemberRange) → ranges ≡ [] → AreRangesOf table numbers ranges
no_ranges table numbers ranges none layer default below = let low = rw none at below in absurd (omega arith)
