-- Glyphs looked up: those of one object alone by its number, and the others in order.
use Rattle.std.proofs.Common.{◌≡◌, ◌∙◌, ◌&&◌, ◌||◌, ◌+◌, ◌<◌, ℕ, Bool, true, false, cond, inl, inr, List, [], ◌∷◌, ◌++◌}
use Rattle.std.proofs.Common.{Option, Some, None, refl, sym, ap, ap₂, length, map, take, get_or, option_map, arith}
use Rattle.std.specs.Prelude.{nat_eq, nat_lt, find, slice_set}
use Rattle.std.specs.List.{list_all}
use Rattle.std.specs.Option.{option_or}
use Rattle.std.proofs.lemmas.Bool.{and_from, and_parts, cases_Bool, cases_eq, eq-eqb, false≢true, or_cases}
use Rattle.std.proofs.lemmas.Bool.Decides.{nat_tests}
use Rattle.std.proofs.lemmas.Grind.{common_steps}
use Rattle.std.proofs.lemmas.List.{get_or-set_other, get_or-set_same, length-set, map-append}
use Rattle.std.proofs.lemmas.List.Folds.{find-append}
use Rattle.ps_model.specs.declared.pieces.ObjectId.{ObjectId}
use Rattle.ps_model.specs.names.Names.{Glyph, is_among, members}
use Rattle.ps_model.specs.session.Frames.{same_objects}
use Rattle.ps_screen.specs.Glyphs.{AreLookedUp, character_for, single_place}

-- each of a list has that number
abbrev pub have_number : ℕ → List ObjectId → Bool
have_number n objects = list_all (λ object. nat_eq n object.0) objects

-- what is among objects of one number has it
has_number : (n : ℕ) (objects : List ObjectId) (object : ObjectId) → have_number n objects ≡ true →
    is_among objects object ≡ true → nat_eq n object.0 ≡ true
has_number n [] object each among = absurd (false≢true among)
has_number n (first ∷ rest) object each among =
    let parts = and_parts (nat_eq n first.0) (have_number n rest) each in
    elim (or_cases (nat_eq object.0 first.0) (is_among rest object) among) [
      | inl here ↦ grind (arith, nat_tests, here, parts.0)
      | inr there ↦ has_number n rest object parts.1 there
    ]

have_numbers : (n : ℕ) (objects others : List ObjectId) → have_number n objects ≡ true →
    list_all (is_among objects) others ≡ true → have_number n others ≡ true
have_numbers n objects [] each all = refl
have_numbers n objects (other ∷ others) each all =
    let parts = and_parts (is_among objects other) (list_all (is_among objects) others) all in
    and_from (nat_eq n other.0) (have_number n others) (has_number n objects other each parts.0)
    (have_numbers n objects others each parts.1)

-- and those of that number are among them
are_among : (n : ℕ) (first : ObjectId) (rest others : List ObjectId) → nat_eq n first.0 ≡ true →
    have_number n others ≡ true → list_all (is_among (first ∷ rest)) others ≡ true
are_among n first rest [] here each = refl
are_among n first rest (other ∷ others) here each =
    let parts = and_parts (nat_eq n other.0) (have_number n others) each in
    let same : nat_eq other.0 first.0 ≡ true = grind (arith, nat_tests, here, parts.0) in
    and_from (is_among (first ∷ rest) other) (list_all (is_among (first ∷ rest)) others)
    (ap (λ (b : Bool). b || is_among rest other) same) (are_among n first rest others here parts.1)

-- what it is to have a place
place_told : (count : ℕ) (first : ObjectId) (rest : List ObjectId) (place : ℕ) (b : Bool) →
    (nat_lt first.0 count && have_number first.0 rest) ≡ b → cond b (Some first.0) None ≡ Some place →
    (place < count) × ((nat_eq place first.0 ≡ true) × (have_number place (first ∷ rest) ≡ true))
place_told count first rest place false e is = absurd (cc)
place_told count first rest place true e is =
    let at : first.0 ≡ place = cc in
    let parts = and_parts (nat_lt first.0 count) (have_number first.0 rest) e in
    let here : nat_eq place first.0 ≡ true = grind (arith, nat_tests, at) in (
      grind (arith, nat_tests, at, parts.0),
      (here, and_from (nat_eq place first.0) (have_number place rest) here (rw (← at) parts.1)),
    )

pub place_made : (count : ℕ) (first : ObjectId) (rest : List ObjectId) (place : ℕ) → place < count →
    have_number place (first ∷ rest) ≡ true → single_place count (first ∷ rest) ≡ Some place
place_made count first rest place low each =
    let parts = and_parts (nat_eq place first.0) (have_number place rest) each in
    let at : place ≡ first.0 = grind (arith, nat_tests, parts.0) in
    let under : nat_lt first.0 count ≡ true = grind (arith, nat_tests, at, low) in
    ap (λ (b : Bool). cond b (Some first.0) None)
    (and_from (nat_lt first.0 count) (have_number first.0 rest) under (rw (← at) parts.1))
    ∙ ap Some (sym at)

-- lists of the same objects have the same place, and lists of one place the same objects
same_place : (count : ℕ) (objects others : List ObjectId) (place : ℕ) → same_objects objects others ≡ true →
    single_place count objects ≡ Some place → single_place count others ≡ Some place
same_place count [] others place same at = absurd (cc)
same_place count (first ∷ rest) [] place same at = absurd (false≢true same)
same_place count (first ∷ rest) (other ∷ others) place same at =
    let told = place_told count first rest place (nat_lt first.0 count && have_number first.0 rest) refl at in
    let parts = and_parts (list_all (is_among (other ∷ others)) (first ∷ rest))
    (list_all (is_among (first ∷ rest)) (other ∷ others)) same in
    place_made count other others place told.0
    (have_numbers place (first ∷ rest) (other ∷ others) told.1.1 parts.1)

pub place_same : (count : ℕ) (objects others : List ObjectId) (place : ℕ) → single_place count objects ≡ Some place →
    single_place count others ≡ Some place → same_objects objects others ≡ true
place_same count [] others place at there = absurd (cc)
place_same count (first ∷ rest) [] place at there = absurd (cc)
place_same count (first ∷ rest) (other ∷ others) place at there =
    let one = place_told count first rest place (nat_lt first.0 count && have_number first.0 rest) refl at in
    let two = place_told count other others place (nat_lt other.0 count && have_number other.0 others) refl there in
    and_from (list_all (is_among (other ∷ others)) (first ∷ rest)) (list_all (is_among (first ∷ rest)) (other ∷ others))
    (are_among place other others (first ∷ rest) two.1.0 one.1.1)
    (are_among place first rest (other ∷ others) one.1.0 two.1.1)

turned : (objects others : List ObjectId) → same_objects objects others ≡ true → same_objects others objects ≡ true
turned objects others same =
    let parts = and_parts (list_all (is_among others) objects) (list_all (is_among objects) others) same in
    and_from (list_all (is_among objects) others) (list_all (is_among others) objects) parts.1 parts.0

-- lists of which one alone has a place, or of two places, don't have the same objects
pub place_alone : (count : ℕ) (objects others : List ObjectId) (place : ℕ) → single_place count objects ≡ Some place →
    single_place count others ≡ None → same_objects objects others ≡ false
place_alone count objects others place at none = elim (cases_Bool (same_objects objects others)) [
  | inl same ↦ let there = same_place count objects others place same at in absurd (cc)
  | inr other ↦ other
]

pub several_alone : (count : ℕ) (objects others : List ObjectId) (place : ℕ) → single_place count objects ≡ None →
    single_place count others ≡ Some place → same_objects objects others ≡ false
several_alone count objects others place none at = elim (cases_Bool (same_objects objects others)) [
  | inl same ↦ let there = same_place count others objects place (turned objects others same) at in absurd (cc)
  | inr other ↦ other
]

pub places_apart : (count : ℕ) (objects others : List ObjectId) (place there : ℕ) →
    single_place count objects ≡ Some place → single_place count others ≡ Some there → (place ≡ there → ⊥) →
    same_objects objects others ≡ false
places_apart count objects others place there at is apart = elim (cases_Bool (same_objects objects others)) [
  | inl same ↦
      let two = same_place count objects others place same at in
      absurd (apart (cc))
  | inr other ↦ other
]

-- the character of what was found first
passed_by : (first second : Option Glyph) → second ≡ None →
    option_map (λ (g : Glyph). g.character) (option_or first second) ≡ option_map (λ (g : Glyph). g.character) first
passed_by None second none = ap (option_map (λ (g : Glyph). g.character)) none
passed_by (Some g) second none = refl

found_by : (first second : Option Glyph) (glyph : Glyph) → second ≡ Some glyph →
    option_map (λ (g : Glyph). g.character) (option_or first second)
    ≡ option_or (option_map (λ (g : Glyph). g.character) first) (Some glyph.character)
found_by None second glyph is = ap (option_map (λ (g : Glyph). g.character)) is
found_by (Some g) second glyph is = refl

-- one more glyph, which shows other objects, or just these
module _ (glyphs : List Glyph) (glyph : Glyph) (objects : List ObjectId) where
  abbrev fits : Glyph → Bool
  fits g = same_objects (members g.meaning) objects

  pub glyph_passed : same_objects (members glyph.meaning) objects ≡ false →
      character_for (glyphs ++ glyph ∷ []) objects ≡ character_for glyphs objects
  glyph_passed other =
      ap (option_map (λ (g : Glyph). g.character)) (find-append fits glyphs (glyph ∷ []))
      ∙ passed_by (find fits glyphs) (find fits (glyph ∷ [])) (ap (λ (b : Bool). cond b (Some glyph) None) other)

  pub glyph_found : same_objects (members glyph.meaning) objects ≡ true →
      character_for (glyphs ++ glyph ∷ []) objects ≡ option_or (character_for glyphs objects) (Some glyph.character)
  glyph_found same =
      ap (option_map (λ (g : Glyph). g.character)) (find-append fits glyphs (glyph ∷ []))
      ∙ found_by (find fits glyphs) (find fits (glyph ∷ [])) glyph (ap (λ (b : Bool). cond b (Some glyph) None) same)

-- a place is below the count
pub place_below : (count : ℕ) (objects : List ObjectId) (place : ℕ) → single_place count objects ≡ Some place →
    place < count
place_below count [] place at = absurd (cc)
place_below count (first ∷ rest) place at =
    (place_told count first rest place (nat_lt first.0 count && have_number first.0 rest) refl at).0

-- a place is the number of each object that is among those of the list, and of an object alone its own
pub place_of_member : (count : ℕ) (objects : List ObjectId) (place : ℕ) (object : ObjectId) →
    single_place count objects ≡ Some place → is_among objects object ≡ true → place ≡ object.0
place_of_member count [] place object at among = absurd (cc)
place_of_member count (first ∷ rest) place object at among =
    let told = place_told count first rest place (nat_lt first.0 count && have_number first.0 rest) refl at in
    let same : nat_eq place object.0 ≡ true = has_number place (first ∷ rest) object told.1.1 among in
    grind (arith, nat_tests, same)

pub place_of_one : (count : ℕ) (object : ObjectId) → object.0 < count →
    single_place count (object ∷ []) ≡ Some object.0
place_of_one count object low =
    let own : nat_eq object.0 object.0 ≡ true = eq-eqb object.0 object.0 refl in
    place_made count object [] object.0 low (and_from (nat_eq object.0 object.0) true own refl)

-- one more glyph that shows one object alone
pub looked_single : (glyphs : List Glyph) (glyph : Glyph) (single after : List (Option ℕ)) (mixed : List Glyph)
    (place : ℕ) → AreLookedUp glyphs single mixed →
    single_place (length single) (members glyph.meaning) ≡ Some place →
    after ≡ slice_set single place (option_or (get_or single place None) (Some glyph.character)) →
    AreLookedUp (glyphs ++ glyph ∷ []) after mixed
looked_single glyphs glyph single after mixed place was is made =
    let own : List ObjectId = members glyph.meaning in
    let here : Option ℕ = option_or (get_or single place None) (Some glyph.character) in
    let low : place < length single = place_below (length single) own place is in
    let long : length after ≡ length single = ap length made ∙ length-set single place here in
    record {
      alone = λ objects there at.
          let told : single_place (length single) objects ≡ Some there = rw long at at in
          elim (cases_eq there place) [
            | inl same ↦
                let so : single_place (length single) objects ≡ Some place = told ∙ ap Some same in
                ap₂ (λ (xs : List (Option ℕ)) (k : ℕ). get_or xs k None) made same
                ∙ get_or-set_same single place here None low
                ∙ ap (λ (o : Option ℕ). option_or o (Some glyph.character)) (was.alone objects place so)
                ∙ sym (glyph_found glyphs glyph objects (place_same (length single) own objects place is so))
            | inr apart ↦
                ap (λ (xs : List (Option ℕ)). get_or xs there None) made
                ∙ get_or-set_other single place there here None apart
                ∙ was.alone objects there told
                ∙ sym (glyph_passed glyphs glyph objects
                (places_apart (length single) own objects place there is told (λ e. apart (sym e))))
          ];
      several = λ objects none.
          let told : single_place (length single) objects ≡ None = rw long at none in
          was.several objects told
          ∙ sym (glyph_passed glyphs glyph objects (place_alone (length single) own objects place is told));
    }

-- one more glyph that shows several
pub looked_mixed : (glyphs : List Glyph) (glyph : Glyph) (single : List (Option ℕ)) (mixed : List Glyph) →
    AreLookedUp glyphs single mixed → single_place (length single) (members glyph.meaning) ≡ None →
    AreLookedUp (glyphs ++ glyph ∷ []) single (mixed ++ glyph ∷ [])
looked_mixed glyphs glyph single mixed was none =
    let own : List ObjectId = members glyph.meaning in
    record {
      alone = λ objects place at.
          was.alone objects place at
          ∙ sym (glyph_passed glyphs glyph objects (several_alone (length single) own objects place none at));
      several = λ objects far. elim (cases_Bool (same_objects own objects)) [
        | inl same ↦
            glyph_found mixed glyph objects same
            ∙ ap (λ (o : Option ℕ). option_or o (Some glyph.character)) (was.several objects far)
            ∙ sym (glyph_found glyphs glyph objects same)
        | inr other ↦
            glyph_passed mixed glyph objects other ∙ was.several objects far
            ∙ sym (glyph_passed glyphs glyph objects other)
      ];
    }

-- one more element of a list
pub shown_more : {X Y : Type 0} (f : X → Y) (xs : List X) (i : ℕ) (x : X) → i < length xs → x ≡ get_or xs i x →
    map f (take (i + 1) xs) ≡ map f (take i xs) ++ f x ∷ []
shown_more f xs i x within is =
    let more : take (i + 1) xs ≡ take i xs ++ x ∷ [] = grind (arith, common_steps, is) in
    ap (map f) more ∙ map-append f (take i xs) (x ∷ [])
