-- Objects that show each cell in which they are the topmost one.
use Rattle.std.proofs.Common.{◌≡◌, ◌∙◌, ◌||◌, ◌+◌, ◌-◌, ◌<◌, ℕ, suc, zero, Bool, true, false, cond, inl, inr, not}
use Rattle.std.proofs.Common.{List, [], ◌∷◌, ◌++◌, Option, Some, None, refl, sym, ap, length, get_or, option_map, arith}
use Rattle.std.proofs.Common.{take, drop}
use Rattle.std.specs.Prelude.{IfSome, ◌≤◌, nat_eq, find, filter, slice_get, slice_set, option_to_list}
use Rattle.std.specs.List.{list_all, list_any}
use Rattle.std.proofs.lemmas.Bool.{and_parts, cases_Bool, cases_eq, cases_lt, eq-eqb, false≢true, ne_eqb, or_cases}
use Rattle.std.proofs.lemmas.Bool.{or_left, or_right}
use Rattle.std.proofs.lemmas.Bool.Decides.{nat_tests}
use Rattle.std.proofs.lemmas.Grind.{common_steps}
use Rattle.std.proofs.lemmas.List.Elements.{filter-append}
use Rattle.std.proofs.lemmas.List.Folds.{list_any-append, list_any_more}
use Rattle.std.proofs.lemmas.Option.{slice_get-get_or}
use Rattle.std.proofs.lemmas.List.{get_or-set_other, get_or-set_same, get_or_append_left, get_or_past, get_or_push}
use Rattle.ps_model.specs.declared.pieces.ObjectId.{ObjectId}
use Rattle.ps_model.specs.names.Names.{Glyph, Names, is_among, members, same_object}
use Rattle.ps_model.specs.board.Levels.{is_ground}
use Rattle.ps_model.specs.session.Frames.{character_of, first_of_three, glyph_for, same_objects, topmost}
use Rattle.ps_screen.specs.Glyphs.{AreCovering, AreLookedUp, AreThinned, Covers, character_for, single_place}
use Rattle.ps_screen.proofs.LookedUp.{place_of_member, place_of_one}

-- an object after others is among them, and the topmost one
pub last_among : (objects : List ObjectId) (object : ObjectId) → is_among (objects ++ object ∷ []) object ≡ true
last_among objects object =
    list_any-append (same_object object) objects (object ∷ [])
    ∙ or_right (is_among objects object) (is_among (object ∷ []) object)
    (or_left (nat_eq object.0 object.0) false (eq-eqb object.0 object.0 refl))

pub last_topmost : (objects : List ObjectId) (object : ObjectId) → topmost (objects ++ object ∷ []) ≡ object ∷ []
last_topmost objects object =
    let all : List ObjectId = objects ++ object ∷ [] in
    let long : length all ≡ length objects + 1 = grind (arith, common_steps) in
    let at : length all - 1 ≡ length objects = omega (arith, long) in
    let low : length objects < length all = omega (arith, long) in
    ap (λ (n : ℕ). option_to_list (slice_get all n)) at
    ∙ ap option_to_list (slice_get-get_or all (length objects) object low
    ∙ ap Some (get_or_push objects object object (length objects) refl))

-- and is so of those that meet a condition, which it meets
pub last_kept : (p : ObjectId → Bool) (objects : List ObjectId) (object : ObjectId) → p object ≡ true →
    is_among (filter p (objects ++ object ∷ [])) object ≡ true
last_kept p objects object meets =
    let kept : filter p (object ∷ []) ≡ object ∷ [] = ap (λ (b : Bool). cond b (object ∷ []) []) meets in
    ap (λ (xs : List ObjectId). is_among xs object)
    (filter-append p objects (object ∷ []) ∙ ap (λ (xs : List ObjectId). filter p objects ++ xs) kept)
    ∙ last_among (filter p objects) object

-- an object that isn't among one list, but among another: they don't have the same objects
pub all_among : (own objects : List ObjectId) (object : ObjectId) → list_all (is_among own) objects ≡ true →
    is_among objects object ≡ true → is_among own object ≡ true
all_among own [] object all among = absurd (false≢true among)
all_among own (first ∷ rest) object all among =
    let parts = and_parts (is_among own first) (list_all (is_among own) rest) all in
    elim (or_cases (nat_eq object.0 first.0) (is_among rest object) among) [
      | inl here ↦
          let same : object.0 ≡ first.0 = grind (arith, nat_tests, here) in
          ap (λ (n : ℕ). list_any (λ other. nat_eq n other.0) own) same ∙ parts.0
      | inr there ↦ all_among own rest object parts.1 there
    ]

not_same : (own objects : List ObjectId) (object : ObjectId) → is_among own object ≡ false →
    is_among objects object ≡ true → same_objects own objects ≡ false
not_same own objects object out among = elim (cases_Bool (same_objects own objects)) [
  | inl same ↦
      let parts = and_parts (list_all (is_among objects) own) (list_all (is_among own) objects) same in
      absurd (false≢true (sym out ∙ all_among own objects object parts.1 among))
  | inr other ↦ other
]

-- a glyph shows an object
abbrev pub shows : ObjectId → Glyph → Bool
shows object glyph = is_among (members glyph.meaning) object

-- no glyph fits objects of which none shows one
or_none : (a b : Bool) → (a || b) ≡ false → (a ≡ false) × (b ≡ false)
or_none true b e = absurd (false≢true (sym e))
or_none false b e = (refl, e)

none_fits : (glyphs : List Glyph) (objects : List ObjectId) (object : ObjectId) →
    list_any (shows object) glyphs ≡ false → is_among objects object ≡ true →
    find (λ glyph. same_objects (members glyph.meaning) objects) glyphs ≡ None
none_fits [] objects object none among = refl
none_fits (glyph ∷ glyphs) objects object none among =
    let parts = or_none (shows object glyph) (list_any (shows object) glyphs) none in
    let others : Option Glyph = find (λ (g : Glyph). same_objects (members g.meaning) objects) glyphs in
    ap (λ (b : Bool). cond b (Some glyph) others) (not_same (members glyph.meaning) objects object parts.0 among)
    ∙ none_fits glyphs objects object parts.1 among

-- of three glyphs, those that are there have one character, and the last one is there
three : (first second third : Option Glyph) (c : ℕ) →
    ((d : ℕ) → option_map (λ glyph. glyph.character) first ≡ Some d → d ≡ c) →
    ((d : ℕ) → option_map (λ glyph. glyph.character) second ≡ Some d → d ≡ c) →
    option_map (λ glyph. glyph.character) third ≡ Some c → c ≡ character_of (first_of_three first second third)
three (Some glyph) second third c one two last = sym (one glyph.character refl)
three None (Some glyph) third c one two last = sym (two glyph.character refl)
three None None None c one two last = absurd (cc)
three None None (Some glyph) c one two last = cc

-- an object that has a glyph for itself alone, and none with others
module _ (glyphs : List Glyph) (single : List (Option ℕ)) (mixed : List Glyph)
    (looked : AreLookedUp glyphs single mixed) (place c : ℕ) where
  -- objects among which it is: no glyph but that one fits them
  own_alone : (object : ObjectId) (objects : List ObjectId) → object.0 ≡ place → get_or single place None ≡ Some c →
      list_any (shows object) mixed ≡ false → is_among objects object ≡ true →
      (d : ℕ) → character_for glyphs objects ≡ Some d → d ≡ c
  own_alone object objects number own none among d found =
      by_place (single_place (length single) objects) refl
    where
      by_place : (at : Option ℕ) → single_place (length single) objects ≡ at → d ≡ c
      by_place (Some there) e =
          let same : there ≡ place = place_of_member (length single) objects there object e among ∙ number in
          let is : get_or single place None ≡ character_for glyphs objects =
          ap (λ (k : ℕ). get_or single k None) (sym same) ∙ looked.alone objects there e in
          cc
      by_place None e =
          let is : character_for mixed objects ≡ character_for glyphs objects = looked.several objects e in
          let no : character_for mixed objects ≡ None =
          ap (option_map (λ (glyph : Glyph). glyph.character)) (none_fits mixed objects object none among) in
          absurd (cc)

  -- the object alone
  pub one_alone : (object : ObjectId) → object.0 ≡ place → place < length single →
      get_or single place None ≡ Some c → character_for glyphs (object ∷ []) ≡ Some c
  one_alone object number low own =
      let at : single_place (length single) (object ∷ []) ≡ Some place =
      place_of_one (length single) object (omega (arith, number, low)) ∙ ap Some number in
      sym (looked.alone (object ∷ []) place at) ∙ own

-- a place that is beyond the end of a list has nothing
pub within_some : (single : List (Option ℕ)) (place c : ℕ) → get_or single place None ≡ Some c → place < length single
within_some [] zero c own = absurd (cc)
within_some [] (suc place) c own = absurd (cc)
within_some (one ∷ single) zero c own = omega arith
within_some (one ∷ single) (suc place) c own =
    let low = within_some single place c own in omega (arith, low)

-- such an object, if it isn't one of the ground, shows each cell in which it is the topmost one
pub it_covers : (names : Names) (single : List (Option ℕ)) (mixed : List Glyph) (place c : ℕ) →
    AreLookedUp names.glyphs single mixed → get_or single place None ≡ Some c →
    is_ground names (record { 0 = place }) ≡ false → list_any (shows (record { 0 = place })) mixed ≡ false →
    Covers names (record { 0 = place }) c
it_covers names single mixed place c looked own above none = λ below.
    let object : ObjectId = record { 0 = place } in
    let objects : List ObjectId = below ++ object ∷ [] in
    let kept : List ObjectId = filter (λ o. not (is_ground names o)) objects in
    let among : is_among objects object ≡ true = last_among below object in
    let still : is_among kept object ≡ true =
    last_kept (λ o. not (is_ground names o)) below object (ap not above) in
    let alone : character_for names.glyphs (topmost objects) ≡ Some c =
    ap (character_for names.glyphs) (last_topmost below object)
    ∙ one_alone names.glyphs single mixed looked place c object refl (within_some single place c own) own in
    three (glyph_for names objects) (glyph_for names kept) (glyph_for names (topmost objects)) c
    (own_alone names.glyphs single mixed looked place c object objects refl own none among)
    (own_alone names.glyphs single mixed looked place c object kept refl own none still) alone

-- characters left out ------------------------------------------------------------------------------------------------

-- one more
pub thinned_more : (left_out : ObjectId → Bool) (before after : List (Option ℕ)) (one : Option ℕ) (n : ℕ) →
    length after ≡ n → AreThinned left_out before after → ((c : ℕ) → one ≡ Some c →
    (left_out (record { 0 = n }) ≡ false) × (get_or before n None ≡ Some c)) →
    AreThinned left_out before (after ++ one ∷ [])
thinned_more left_out before after one n long thinned own = λ place c told. elim (cases_lt place n) [
  | inl low ↦ thinned place c (sym (get_or_append_left after (one ∷ []) None place (omega (arith, low, long))) ∙ told)
  | inr high ↦ elim (cases_eq place n) [
    | inl e ↦
        let here : one ≡ Some c = sym (get_or_push after one None n long)
        ∙ ap (λ (k : ℕ). get_or (after ++ one ∷ []) k None) (sym e) ∙ told in
        rw e (own c here)
    | inr apart ↦
        let past : get_or (after ++ one ∷ []) place None ≡ None =
        get_or_past (after ++ one ∷ []) place None (grind (arith, common_steps, high, apart, long)) in
        absurd (cc)
  ]
]

-- one left out
pub thinned_one : (characters after : List (Option ℕ)) (object : ObjectId) → object.0 < length characters →
    after ≡ slice_set characters object.0 None → AreThinned (λ other. same_object other object) characters after
thinned_one characters after object low made = λ place c told. elim (cases_eq place object.0) [
  | inl e ↦
      let none : get_or after place None ≡ None =
      ap (λ (xs : List (Option ℕ)). get_or xs place None) made
      ∙ ap (λ (k : ℕ). get_or (slice_set characters object.0 None) k None) e
      ∙ get_or-set_same characters object.0 None None low in
      absurd (cc)
  | inr apart ↦ (
    ne_eqb place object.0 apart,
    sym (get_or-set_other characters object.0 place None None apart)
        ∙ ap (λ (xs : List (Option ℕ)). get_or xs place None) (sym made) ∙ told,
  )
]

-- an object without a place
pub thinned_beyond : (characters : List (Option ℕ)) (object : ObjectId) → length characters ≤ object.0 →
    AreThinned (λ other. same_object other object) characters characters
thinned_beyond characters object high = λ place c told.
    let low = within_some characters place c told in
    (ne_eqb place object.0 (omega (arith, low, high)), told)

-- one time after the other
pub thinned_twice : (p q r : ObjectId → Bool) (first second third : List (Option ℕ)) → AreThinned p first second →
    AreThinned q second third → ((object : ObjectId) → p object ≡ false → q object ≡ false → r object ≡ false) →
    AreThinned r first third
thinned_twice p q r first second third one two both = λ place c told.
    let late = two place c told in
    let early = one place c late.1 in
    (both (record { 0 = place }) early.0 late.0, early.1)

-- one object further
pub thinned_step : (objects : List ObjectId) (i : ℕ) (d : ObjectId) (first second third : List (Option ℕ)) →
    i < length objects → AreThinned (is_among (take i objects)) first second →
    AreThinned (λ other. same_object other (get_or objects i d)) second third →
    AreThinned (is_among (take (i + 1) objects)) first third
thinned_step objects i d first second third low one two =
    thinned_twice (is_among (take i objects)) (λ other. same_object other (get_or objects i d))
    (is_among (take (i + 1) objects)) first second third one two (λ object before here.
    list_any_more (same_object object) objects i d low
    ∙ ap (λ (b : Bool). b || same_object object (get_or objects i d)) before ∙ here)

-- one glyph further
shown_step : (names : Names) (object : ObjectId) (glyphs : List Glyph) (glyph : Glyph) →
    (is_ground names object || list_any (shows object) glyphs) ≡ false → shows object glyph ≡ false →
    (is_ground names object || list_any (shows object) (glyphs ++ glyph ∷ [])) ≡ false
shown_step names object glyphs glyph before here =
    let parts = or_none (is_ground names object) (list_any (shows object) glyphs) before in
    let last : list_any (shows object) (glyph ∷ []) ≡ false = ap (λ (b : Bool). b || false) here in
    ap (λ (b : Bool). is_ground names object || b) (list_any-append (shows object) glyphs (glyph ∷ [])
    ∙ ap (λ (b : Bool). b || list_any (shows object) (glyph ∷ [])) parts.1 ∙ last)
    ∙ ap (λ (b : Bool). b || false) parts.0

pub glyph_left_out : (names : Names) (before after : List Glyph) (glyph : Glyph) (own : List ObjectId)
    (single now there third : List (Option ℕ)) → after ≡ before ++ glyph ∷ [] → own ≡ members glyph.meaning →
    there ≡ now → AreThinned (λ object. is_ground names object || list_any (shows object) before) single now →
    AreThinned (is_among own) there third →
    AreThinned (λ object. is_ground names object || list_any (shows object) after) single third
glyph_left_out names before after glyph own single now there third more is same one two = λ place c told.
    let object : ObjectId = record { 0 = place } in
    let late = two place c told in
    let early = one place c (ap (λ (xs : List (Option ℕ)). get_or xs place None) (sym same) ∙ late.1) in
    let out : shows object glyph ≡ false = ap (λ (xs : List ObjectId). is_among xs object) (sym is) ∙ late.0 in (
      ap (λ (xs : List Glyph). is_ground names object || list_any (shows object) xs) more
          ∙ shown_step names object before glyph early.0 out,
      early.1,
    )

-- a list that is written back whole
pub written_back : (n : ℕ) (made was : List (Option ℕ)) → length made ≡ n → length was ≡ n →
    take n (made ++ drop (length made) was) ≡ made
written_back n made was long same = grind (arith, common_steps, long, same)

-- what holds of the value, if there is one
if_some : (o : Option ℕ) (P : ℕ → Type 0) → ((c : ℕ) → o ≡ Some c → P c) → IfSome o P
if_some None P each = tt
if_some (Some c) P each = each c refl

-- those that are neither of the ground nor shown by a glyph for several
pub they_cover : (names : Names) (single covering : List (Option ℕ)) (mixed : List Glyph) →
    AreLookedUp names.glyphs single mixed →
    AreThinned (λ object. is_ground names object || list_any (shows object) mixed) single covering →
    AreCovering names covering
they_cover names single covering mixed looked thinned = λ place.
    if_some (get_or covering place None) (Covers names (record { 0 = place })) (λ c told.
    let object : ObjectId = record { 0 = place } in
    let left = thinned place c told in
    let parts = or_none (is_ground names object) (list_any (shows object) mixed) left.0 in
    it_covers names single mixed place c looked left.1 parts.0 parts.1)
