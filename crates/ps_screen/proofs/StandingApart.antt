-- Objects that stand apart from those below them: their own glyphs alone can show the cell.
use Rattle.std.proofs.Common.{◌≡◌, ◌∙◌, ◌||◌, ◌&&◌, ◌<◌, ℕ, Bool, true, false, cond, not, inl, inr, refl, sym, ap, ap₂, subst}
use Rattle.std.proofs.Common.{List, [], ◌∷◌, ◌++◌, Option, Some, None, length, get_or, option_map, arith}
use Rattle.std.proofs.lemmas.Bool.Decides.{nat_tests}
use Rattle.std.specs.Prelude.{IfSome, nat_eq, find, filter, option_to_list, unwrap_or}
use Rattle.std.specs.List.{list_all, list_any}
use Rattle.std.proofs.Math.Bool.{and-true, and_comm}
use Rattle.std.proofs.lemmas.Bool.{and_from, and_parts, cases_Bool, eq-eqb, false≢true, or_left}
use Rattle.std.proofs.lemmas.Bool.{or_right}
use Rattle.std.proofs.lemmas.List.Folds.{list_all-append}
use Rattle.ps_model.specs.declared.pieces.ObjectId.{ObjectId}
use Rattle.ps_model.specs.names.Names.{Glyph, Names, is_among, members, same_object}
use Rattle.ps_model.specs.board.Levels.{is_ground}
use Rattle.ps_model.specs.session.Frames.{character_of, first_of_three, glyph_for, same_objects, topmost}
use Rattle.ps_screen.specs.Glyphs.{AreLookedUp, CoversApart, IsAlone, character_for, shows_both, single_place}
use Rattle.ps_screen.specs.Glyphs.{stands_apart}
use Rattle.ps_screen.proofs.LookedUp.{have_number, place_made, place_of_one}
use Rattle.ps_screen.proofs.TopmostObjects.{all_among, last_among, last_kept, last_topmost}

-- a glyph that fits is one of those looked through
record IsOneThatFits (glyphs : List Glyph) (objects : List ObjectId) : Type 0 where
  pub glyph : Glyph
  pub fits : same_objects (members glyph.meaning) objects ≡ true
  pub one : (p : Glyph → Bool) → p glyph ≡ true → list_any p glyphs ≡ true

one_that_fits : (glyphs : List Glyph) (objects : List ObjectId) (d : ℕ) → character_for glyphs objects ≡ Some d →
    IsOneThatFits glyphs objects
one_that_fits [] objects d is = absurd (cc)
one_that_fits (glyph ∷ glyphs) objects d is =
    let fits : Glyph → Bool = λ (g : Glyph). same_objects (members g.meaning) objects in
    elim (cases_Bool (fits glyph)) [
      | inl here ↦ record {
        glyph = glyph;
        fits = here;
        one = λ p so. or_left (p glyph) (list_any p glyphs) so;
      }
      | inr other ↦
          let behind = one_that_fits glyphs objects d (sym (ap (λ (b : Bool).
          option_map (λ (g : Glyph). g.character) (cond b (Some glyph) (find fits glyphs))) other) ∙ is) in
          record {
            glyph = behind.glyph;
            fits = behind.fits;
            one = λ p so. or_right (p glyph) (list_any p glyphs) (behind.one p so);
          }
    ]

-- where an object stands apart from each of some, and a glyph shows it and all of them, they are the object itself
all_itself : (glyphs : List Glyph) (object : ObjectId) (glyph : Glyph) (others : List ObjectId) →
    is_among (members glyph.meaning) object ≡ true →
    ((p : Glyph → Bool) → p glyph ≡ true → list_any p glyphs ≡ true) →
    list_all (is_among (members glyph.meaning)) others ≡ true → list_all (stands_apart glyphs object) others ≡ true →
    have_number object.0 others ≡ true
all_itself glyphs object glyph [] own one shown apart = refl
all_itself glyphs object glyph (other ∷ others) own one shown apart =
    let among : List ObjectId → Bool = list_all (is_among (members glyph.meaning)) in
    let each : List ObjectId → Bool = list_all (stands_apart glyphs object) in
    let here = and_parts (is_among (members glyph.meaning) other) (among others) shown in
    let alone = and_parts (stands_apart glyphs object other) (each others) apart in
    let rest : have_number object.0 others ≡ true = all_itself glyphs object glyph others own one here.1 alone.1 in
    elim (cases_Bool (nat_eq object.0 other.0)) [
      | inl same ↦ and_from (nat_eq object.0 other.0) (have_number object.0 others) same rest
      | inr unlike ↦
          let both : shows_both object other glyph ≡ true =
          and_from (is_among (members glyph.meaning) object) (is_among (members glyph.meaning) other) own here.0 in
          let shown_both : list_any (shows_both object other) glyphs ≡ true = one (shows_both object other) both in
          absurd (false≢true (sym (ap₂ (λ (a b : Bool). a || not b) unlike shown_both) ∙ alone.0))
    ]

-- objects of one number have its place
place_of_all : (count : ℕ) (objects : List ObjectId) (object : ObjectId) → object.0 < count →
    is_among objects object ≡ true → have_number object.0 objects ≡ true → single_place count objects ≡ Some object.0
place_of_all count [] object low among each = absurd (false≢true among)
place_of_all count (first ∷ rest) object low among each = place_made count first rest object.0 low each

-- of three glyphs those that are there have one character, that of the last one; where none is there, it is `?`
three_apart : (first second third : Option Glyph) (own : Option ℕ) →
    ((d : ℕ) → option_map (λ glyph. glyph.character) first ≡ Some d → own ≡ Some d) →
    ((d : ℕ) → option_map (λ glyph. glyph.character) second ≡ Some d → own ≡ Some d) →
    option_map (λ glyph. glyph.character) third ≡ own →
    unwrap_or own 63 ≡ character_of (first_of_three first second third)
three_apart (Some glyph) second third own one two last =
    ap (λ o. unwrap_or o 63) (one glyph.character refl)
three_apart None (Some glyph) third own one two last = ap (λ o. unwrap_or o 63) (two glyph.character refl)
three_apart None None (Some glyph) own one two last = ap (λ o. unwrap_or o 63) (sym last)
three_apart None None None own one two last = ap (λ o. unwrap_or o 63) (sym last)

all_of_kept : (p q : ObjectId → Bool) (objects : List ObjectId) → list_all p objects ≡ true →
    list_all p (filter q objects) ≡ true
all_of_kept p q [] all = refl
all_of_kept p q (object ∷ objects) all =
    let parts = and_parts (p object) (list_all p objects) all in
    let rest : list_all p (filter q objects) ≡ true = all_of_kept p q objects parts.1 in
    elim (cases_Bool (q object)) [
      | inl kept ↦ rw kept (and_from (p object) (list_all p (filter q objects)) parts.0 rest)
      | inr gone ↦ rw gone rest
    ]

-- an object that isn't one of the ground shows each cell in which it is the topmost one and stands apart
pub it_covers_apart : (names : Names) (single : List (Option ℕ)) (mixed : List Glyph) (object : ObjectId) →
    AreLookedUp names.glyphs single mixed → object.0 < length single → is_ground names object ≡ false →
    CoversApart names object (unwrap_or (get_or single object.0 None) 63)
it_covers_apart names single mixed object looked low above = λ below apart.
    let glyphs : List Glyph = names.glyphs in
    let stands : ObjectId → Bool = stands_apart glyphs object in
    let objects : List ObjectId = below ++ object ∷ [] in
    let upper : ObjectId → Bool = λ o. not (is_ground names o) in
    let kept : List ObjectId = filter upper objects in
    let own : Option ℕ = get_or single object.0 None in
    let itself : stands object ≡ true =
    or_left (nat_eq object.0 object.0) (not (list_any (shows_both object object) glyphs))
    (eq-eqb object.0 object.0 refl) in
    let all : list_all stands objects ≡ true =
    list_all-append stands below (object ∷ [])
    ∙ and_from (list_all stands below) (list_all stands (object ∷ [])) apart (and_from (stands object) true itself refl)
    in
    let known : (some : List ObjectId) → is_among some object ≡ true → list_all stands some ≡ true →
    (d : ℕ) → character_for glyphs some ≡ Some d → own ≡ Some d =
    λ some among each d is.
    let one = one_that_fits glyphs some d is in
    let parts = and_parts (list_all (is_among some) (members (one.glyph).meaning))
    (list_all (is_among (members (one.glyph).meaning)) some) one.fits in
    let shown : is_among (members (one.glyph).meaning) object ≡ true =
    all_among (members (one.glyph).meaning) some object parts.1 among in
    let at : single_place (length single) some ≡ Some object.0 =
    place_of_all (length single) some object low among
    (all_itself glyphs object one.glyph some shown one.one parts.1 each) in
    looked.alone some object.0 at ∙ is
    in
    let at : single_place (length single) (object ∷ []) ≡ Some object.0 = place_of_one (length single) object low in
    let alone : character_for glyphs (topmost objects) ≡ own =
    ap (character_for glyphs) (last_topmost below object) ∙ sym (looked.alone (object ∷ []) object.0 at) in
    three_apart (glyph_for names objects) (glyph_for names kept) (glyph_for names (topmost objects)) own
    (known objects (last_among below object) all)
    (known kept (last_kept upper below object (ap not above)) (all_of_kept stands upper objects all)) alone

-- two objects stand apart either way
any_turned : (object other : ObjectId) (glyphs : List Glyph) →
    list_any (shows_both object other) glyphs ≡ list_any (shows_both other object) glyphs
any_turned object other [] = refl
any_turned object other (glyph ∷ glyphs) =
    ap₂ (λ (a b : Bool). a || b)
    (and_comm (is_among (members glyph.meaning) object) (is_among (members glyph.meaning) other))
    (any_turned object other glyphs)

pub apart_turned : (glyphs : List Glyph) (object other : ObjectId) →
    stands_apart glyphs object other ≡ stands_apart glyphs other object
apart_turned glyphs object other =
    ap₂ (λ (a b : Bool). a || not b) (grind (arith, nat_tests)) (any_turned object other glyphs)

-- one layer more
pub apart_more : (glyphs : List Glyph) (below : List ObjectId) (found : Option ObjectId) →
    ((object : ObjectId) → list_all (stands_apart glyphs object) below ≡ true) → IfSome found (IsAlone glyphs) →
    (object : ObjectId) → list_all (stands_apart glyphs object) (below ++ option_to_list found) ≡ true
apart_more glyphs below None each alone object =
    list_all-append (stands_apart glyphs object) below [] ∙ and-true (list_all (stands_apart glyphs object) below)
    ∙ each object
apart_more glyphs below (Some other) each alone object =
    list_all-append (stands_apart glyphs object) below (other ∷ [])
    ∙ and_from (list_all (stands_apart glyphs object) below) (list_all (stands_apart glyphs object) (other ∷ []))
    (each object)
    (and_from (stands_apart glyphs object other) true (apart_turned glyphs object other ∙ alone object) refl)

pub alone_from_all : (glyphs : List Glyph) (object : ObjectId) (others : List ObjectId) → IsAlone glyphs object →
    list_all (stands_apart glyphs object) others ≡ true
alone_from_all glyphs object [] alone = refl
alone_from_all glyphs object (other ∷ others) alone =
    and_from (stands_apart glyphs object other) (list_all (stands_apart glyphs object) others) (alone other)
    (alone_from_all glyphs object others alone)
