-- Lists of the same objects have the same greatest number.
use Rattle.std.proofs.Common.{◌≡◌, ◌∙◌, ℕ, ◌+◌, ◌<◌, ◌≤◌, ◌&&◌, inl, inr, Bool, true, false, List, [], ◌∷◌, ◌++◌, refl, sym, ap}
use Rattle.std.proofs.Common.{arith, get_or, length, map, take}
use Rattle.std.specs.Prelude.{filter, nat_eq, nat_lt}
use Rattle.std.specs.List.{list_all, list_any}
use Rattle.std.proofs.lemmas.Bool.{and_parts, cases_Bool, cases_lt, eq-eqb, eqb-true, false≢true, le-ltb, lt-ltb, ne_eqb}
use Rattle.std.proofs.lemmas.Bool.{or_cases}
use Rattle.std.proofs.lemmas.List.{get_or-map, map_more}
use Rattle.std.proofs.lemmas.List.Elements.{filter-append}
use Rattle.ps_model.specs.declared.pieces.ObjectId.{ObjectId}
use Rattle.ps_model.specs.names.Names.{Glyph, is_among, members, same_object}
use Rattle.ps_model.specs.session.Frames.{same_objects}
use Rattle.ps_screen.specs.Glyphs.{character_for, with_greatest}
use Rattle.ps_screen.specs.GreatestObjects.{greater, greatest}

-- neither number is greater than the greater one, which is one of the two
first_below : (a b : ℕ) → a ≤ greater a b
first_below a b = elim (cases_lt b a) [
  | inl h ↦ rw (lt-ltb b a h) (omega arith)
  | inr h ↦ rw (le-ltb b a h) h
]

second_below : (a b : ℕ) → b ≤ greater a b
second_below a b = elim (cases_lt b a) [
  | inl h ↦ rw (lt-ltb b a h) (omega arith)
  | inr h ↦ rw (le-ltb b a h) (omega arith)
]

greater_below : (a b c : ℕ) → a ≤ c → b ≤ c → greater a b ≤ c
greater_below a b c first second = elim (cases_lt b a) [
  | inl h ↦ rw (lt-ltb b a h) first
  | inr h ↦ rw (le-ltb b a h) second
]

-- no number among them is greater
among_below : (objects : List ObjectId) (object : ObjectId) → is_among objects object ≡ true →
    object.0 ≤ greatest objects
among_below [] object among = absurd (false≢true among)
among_below (first ∷ objects) object among =
    elim (or_cases (same_object object first) (list_any (same_object object) objects) among) [
      | inl same ↦
          let e : object.0 ≡ first.0 = eqb-true object.0 first.0 same in
          let low : first.0 ≤ greatest (first ∷ objects) = first_below first.0 (greatest objects) in
          rw e low
      | inr behind ↦
          let low : object.0 ≤ greatest objects = among_below objects object behind in
          let more : greatest objects ≤ greatest (first ∷ objects) = second_below first.0 (greatest objects) in
          omega (arith, low, more)
    ]

all_below : (first second : List ObjectId) → list_all (is_among second) first ≡ true → greatest first ≤ greatest second
all_below [] second all = omega arith
all_below (object ∷ objects) second all =
    let parts = and_parts (is_among second object) (list_all (is_among second) objects) all in
    greater_below object.0 (greatest objects) (greatest second) (among_below second object parts.0)
    (all_below objects second parts.1)

pub same_greatest : (first second : List ObjectId) → same_objects first second ≡ true →
    greatest first ≡ greatest second
same_greatest first second same =
    let parts = and_parts (list_all (is_among second) first) (list_all (is_among first) second) same in
    let low : greatest first ≤ greatest second = all_below first second parts.0 in
    let high : greatest second ≤ greatest first = all_below second first parts.1 in
    omega (arith, low, high)

-- glyphs whose objects have that greatest number are enough: no other one fits
pub greatest_enough : (glyphs : List Glyph) (objects : List ObjectId) →
    character_for (with_greatest glyphs (greatest objects)) objects ≡ character_for glyphs objects
greatest_enough [] objects = refl
greatest_enough (glyph ∷ glyphs) objects =
    let own : List ObjectId = members glyph.meaning in
    let fits : Glyph → Bool = λ (g : Glyph). same_objects (members g.meaning) objects in
    let rest : List Glyph = with_greatest glyphs (greatest objects) in
    let behind = greatest_enough glyphs objects in
    elim (cases_Bool (same_objects own objects)) [
      | inl same ↦
          let kept : nat_eq (greatest own) (greatest objects) ≡ true =
          eq-eqb (greatest own) (greatest objects) (same_greatest own objects same) in
          rw (kept, same) refl
      | inr other ↦ elim (cases_Bool (nat_eq (greatest own) (greatest objects))) [
        | inl kept ↦ rw (kept, other) behind
        | inr gone ↦ rw (gone, other) behind
      ]
    ]

-- one glyph more
pub with_greatest_more : {X : Type 0} (shown : X → Glyph) (glyphs : List X) (number i : ℕ) (d : X) → i < length glyphs →
    with_greatest (map shown (take (i + 1) glyphs)) number ≡ with_greatest (map shown (take i glyphs)) number
    ++ with_greatest (shown (get_or glyphs i d) ∷ []) number
with_greatest_more shown glyphs number i d low =
    let p : Glyph → Bool = λ (g : Glyph). nat_eq (greatest (members g.meaning)) number in
    ap (filter p) (map_more shown glyphs i d low)
    ∙ filter-append p (map shown (take i glyphs)) (shown (get_or glyphs i d) ∷ [])

-- the number of one glyph, by the list of all
pub most_of : {X : Type 0} (shown : X → Glyph) (glyphs : List X) (mosts : List ℕ) (i : ℕ) (d : X) (e : ℕ) →
    mosts ≡ map (λ g. greatest (members (shown g).meaning)) glyphs → i < length glyphs →
    get_or mosts i e ≡ greatest (members (shown (get_or glyphs i d)).meaning)
most_of shown glyphs mosts i d e is low =
    ap (λ xs. get_or xs i e) is ∙ get_or-map (λ g. greatest (members (shown g).meaning)) glyphs i d e low

-- of one glyph that is so itself or nothing
pub one_kept : (glyph : Glyph) (number : ℕ) → greatest (members glyph.meaning) ≡ number →
    with_greatest (glyph ∷ []) number ≡ glyph ∷ []
one_kept glyph number is =
    let kept : nat_eq (greatest (members glyph.meaning)) number ≡ true =
    eq-eqb (greatest (members glyph.meaning)) number is in
    rw kept refl

pub one_passed : (glyph : Glyph) (number : ℕ) → (greatest (members glyph.meaning) ≡ number → ⊥) →
    with_greatest (glyph ∷ []) number ≡ []
one_passed glyph number isnt =
    let gone : nat_eq (greatest (members glyph.meaning)) number ≡ false =
    ne_eqb (greatest (members glyph.meaning)) number isnt in
    rw gone refl
