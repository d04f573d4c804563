-- Glyphs by the objects that they show: one object alone, or several; and objects that show each cell in which they are
-- the topmost one, or each of them in which they stand apart from those below.
use Rattle.std.specs.Prelude.{◌≡◌, ◌&&◌, ◌||◌, ◌<◌, ℕ, nat_eq, nat_lt, not, if◌then◌else◌, filter, find, length, option_map}
use Rattle.std.specs.Prelude.{slice_index_or, IfSome, Bool, false, true, List, [], ◌∷◌, ◌++◌, Option, Some, None}
use Rattle.std.specs.List.{list_all, list_any}
use Rattle.ps_model.specs.declared.pieces.ObjectId.{ObjectId}
use Rattle.ps_model.specs.names.Names.{Glyph, Names, is_among, members, same_object}
use Rattle.ps_model.specs.session.Frames.{character_of, glyph_of_objects, same_objects}
use Rattle.ps_screen.specs.GreatestObjects.{greatest}

-- the number of the object that each of a list is, if it is below a count
abbrev pub single_place : ℕ → List ObjectId → Option ℕ
single_place count [] = None
single_place count (first ∷ rest) =
    if nat_lt first.0 count && list_all (same_object first) rest then Some first.0 else None

-- the character of the first glyph that shows just these objects
abbrev pub character_for : List Glyph → List ObjectId → Option ℕ
character_for glyphs objects = option_map (λ glyph. glyph.character)
    (find (λ glyph. same_objects (members glyph.meaning) objects) glyphs)

-- glyphs as they are looked up: those of one object alone have their characters in a list by the objects' numbers, and
-- the others are as they were
pub record AreLookedUp (glyphs : List Glyph) (single : List (Option ℕ)) (mixed : List Glyph) : Type 0 where
  pub alone : (objects : List ObjectId) (place : ℕ) → single_place (length single) objects ≡ Some place →
      slice_index_or single place None ≡ character_for glyphs objects
  pub several : (objects : List ObjectId) → single_place (length single) objects ≡ None →
      character_for mixed objects ≡ character_for glyphs objects

-- the character shows each cell in which the object is the topmost one, whatever stands below it
abbrev pub Covers : Names → ObjectId → ℕ → Type 0
Covers names object character =
    (below : List ObjectId) → character ≡ character_of (glyph_of_objects names (below ++ object ∷ []))

-- by the objects' numbers, characters that do so
abbrev pub AreCovering : Names → List (Option ℕ) → Type 0
AreCovering names characters =
    (place : ℕ) → IfSome (slice_index_or characters place None) (Covers names (record { 0 = place }))

-- by the objects' numbers, characters of which those are left out whose objects meet a condition, and perhaps others
abbrev pub AreThinned : (ObjectId → Bool) → List (Option ℕ) → List (Option ℕ) → Type 0
AreThinned left_out before after =
    (place character : ℕ) → slice_index_or after place None ≡ Some character →
    (left_out (record { 0 = place }) ≡ false) × (slice_index_or before place None ≡ Some character)

-- a glyph shows both objects, perhaps with others
abbrev pub shows_both : ObjectId → ObjectId → Glyph → Bool
shows_both object other glyph = is_among (members glyph.meaning) object && is_among (members glyph.meaning) other

-- an object stands apart from another: no glyph shows both
abbrev pub stands_apart : List Glyph → ObjectId → ObjectId → Bool
stands_apart glyphs object other = same_object object other || not (list_any (shows_both object other) glyphs)

-- so it does from every other one
abbrev pub IsAlone : List Glyph → ObjectId → Type 0
IsAlone glyphs object = (other : ObjectId) → stands_apart glyphs object other ≡ true

-- the character shows each cell in which the object is the topmost one, if it stands apart from those below it
abbrev pub CoversApart : Names → ObjectId → ℕ → Type 0
CoversApart names object character =
    (below : List ObjectId) → list_all (stands_apart names.glyphs object) below ≡ true →
    character ≡ character_of (glyph_of_objects names (below ++ object ∷ []))

-- by the objects' numbers, those are noted that one of the glyphs shows with another one, and perhaps others
abbrev pub AreMixed : List Glyph → List Bool → Type 0
AreMixed glyphs mixes =
    (object other : ObjectId) → same_object object other ≡ false → list_any (shows_both object other) glyphs ≡ true →
    slice_index_or mixes object.0 true ≡ true

-- what is noted stays so
abbrev pub StayNoted : List Bool → List Bool → Type 0
StayNoted before after =
    (number : ℕ) → slice_index_or before number true ≡ true → slice_index_or after number true ≡ true

-- of some glyphs those among whose objects that number is the greatest
abbrev pub with_greatest : List Glyph → ℕ → List Glyph
with_greatest glyphs number = filter (λ glyph. nat_eq (greatest (members glyph.meaning)) number) glyphs

-- for each number of a count those glyphs
abbrev pub AreByGreatest : List Glyph → List (List Glyph) → Type 0
AreByGreatest glyphs lists =
    (number : ℕ) → number < length lists → slice_index_or lists number [] ≡ with_greatest glyphs number
