-- The readings of a rule, made stage by stage.
use Rattle.std.proofs.Common.{◌≡◌, ℕ, ◌+◌, ◌*◌, Option, Some, None, List, [], ◌∷◌, ◌++◌, length, map, refl, sym, ◌∙◌}
use Rattle.std.proofs.Common.{ap, arith, append_assoc, length-append, fold}
use Rattle.std.specs.List.{flat_map, filter_map, cons_option}
use Rattle.std.proofs.lemmas.List.{append-nil, length-map}
use Rattle.std.proofs.lemmas.List.Folds.{flat_map-map}
use Rattle.std.proofs.lemmas.Simd.{map-map}
use Rattle.ps_model.specs.declared.pieces.ObjectId.{ObjectId}
use Rattle.ps_model.specs.declared.pieces.Direction.{Direction}
use Rattle.ps_model.specs.declared.pieces.Motion.{Motion}
use Rattle.ps_model.specs.names.Names.{Names}
use Rattle.ps_model.specs.rules.SourceRules.{Item, SourceRule}
use Rattle.ps_model.specs.meaning.Occurrences.{left_items}
use Rattle.ps_model.specs.meaning.Readings.{Reading, one_of_each, ways, directions_of, move_choices, member_choices}
use Rattle.ps_model.specs.meaning.Readings.{all_move_choices, all_member_choices, readings_in, readings}
use Rattle.ps_laws.specs.Stages.{split_all, in_direction, with_move, with_member, split_reading, split_by_moves}
use Rattle.ps_laws.specs.Stages.{split_by_members, nested_readings_in, ReadByStages, ReadOneInOther, ReadingsCounted}
use Rattle.ps_laws.proofs.common.Stages.{map-flat_map, flat_map-flat_map, same_map, same_flat_map, flat_map-each}
use Rattle.ps_laws.proofs.common.Stages.{split_all-one_of_each, length-flat_map_same, length-one_of_each}

-- a reading with several more
abbrev with_all : {A : Type 0} → (Reading → A → Reading) → Reading → List A → Reading
with_all with reading [] = reading
with_all with reading (item ∷ items) = with_all with (with reading item) items

-- one split, and then all others
split_then : {A : Type 0} (with : Reading → A →
    Reading) (choices : Option (List A)) (others : List (List A)) (reading : Reading) →
    flat_map (λ made. map (with_all with made) (one_of_each others)) (split_reading with choices reading) ≡ map
    (with_all with reading) (one_of_each (cons_option choices others))
split_then with None others reading = append-nil (map (with_all with reading) (one_of_each others))
split_then with (Some choices) others reading =
    flat_map-map _ (with reading) choices
    ∙ same_flat_map _ _ (λ item. sym (map-map (with_all with reading) (λ rest. item ∷ rest) (one_of_each others)))
    choices
    ∙ sym (map-flat_map (with_all with reading) _ choices)

-- what the choice of moves leaves of a direction
all_moves : (reading : Reading) (moves : List (ℕ × Motion)) →
    with_all with_move reading moves ≡ record {
      direction = reading.direction;
      moves =
          reading.moves ++ moves;
      members = reading.members;
    }
all_moves reading [] = ap (λ (l : List (ℕ × Motion)). let made : Reading =
    record { direction = reading.direction; moves = l; members = reading.members } in made)
    (sym (append-nil reading.moves))
all_moves reading (move ∷ moves) =
    all_moves (with_move reading move) moves
    ∙ ap (λ (l : List (ℕ × Motion)). let made : Reading =
    record { direction = reading.direction; moves = l; members = reading.members } in made)
    (append_assoc reading.moves (move ∷ []) moves)

all_members : (reading : Reading) (members : List (ℕ × ObjectId)) →
    with_all with_member reading members ≡ record {
      direction = reading.direction;
      moves = reading.moves;
      members =
          reading.members ++ members;
    }
all_members reading [] = ap (λ (l : List (ℕ × ObjectId)). let made : Reading =
    record { direction = reading.direction; moves = reading.moves; members = l } in made)
    (sym (append-nil reading.members))
all_members reading (member ∷ members) =
    all_members (with_member reading member) members
    ∙ ap (λ (l : List (ℕ × ObjectId)). let made : Reading =
    record { direction = reading.direction; moves = reading.moves; members = l } in made)
    (append_assoc reading.members (member ∷ []) members)

-- a move leaves the direction, and so the choices that are to come
same_direction : (choices : Option (List (ℕ × Motion))) (items : List Item) (reading : Reading) →
    flat_map (λ made. map (with_all with_move made) (one_of_each (filter_map (move_choices made.direction) items)))
    (split_reading with_move choices reading)
    ≡ flat_map (λ made. map (with_all with_move made)
    (one_of_each (filter_map (move_choices reading.direction) items))) (split_reading with_move choices reading)
same_direction None items reading = refl
same_direction (Some choices) items reading = flat_map-map _ (with_move reading) choices
    ∙ sym (flat_map-map _ (with_move reading) choices)

-- the stage of the moves: each reading with one of each of its choices
split_by_moves-all : (items : List Item) (made : List Reading) →
    split_by_moves items made ≡ flat_map (λ reading.
    map (with_all with_move reading) (one_of_each (filter_map (move_choices reading.direction) items))) made
split_by_moves-all [] made = sym (flat_map-each made)
split_by_moves-all (item ∷ items) made =
    split_by_moves-all items (flat_map (λ reading.
    split_reading with_move (move_choices reading.direction item) reading) made)
    ∙ flat_map-flat_map _ _ made
    ∙ same_flat_map _ _ (λ reading. same_direction (move_choices reading.direction item) items reading
    ∙ split_then with_move (move_choices reading.direction item) (filter_map (move_choices reading.direction) items)
    reading) made

-- the stage of the members
split_by_members-all : (names : Names) (rule : SourceRule) (items : List Item) (made : List Reading) →
    split_by_members names rule items made ≡ flat_map (λ reading.
    map (with_all with_member reading) (one_of_each (filter_map (member_choices names rule) items))) made
split_by_members-all names rule [] made = sym (flat_map-each made)
split_by_members-all names rule (item ∷ items) made =
    split_by_members-all names rule items (flat_map (λ reading.
    split_reading with_member (member_choices names rule item) reading) made)
    ∙ flat_map-flat_map _ _ made
    ∙ same_flat_map _ _ (λ reading. split_then with_member (member_choices names rule item)
    (filter_map (member_choices names rule) items) reading) made

-- of one reading, a stage makes one for each choice
pub split_by_moves-is : (items : List Item) (made : List Reading) →
    split_by_moves items made ≡ flat_map (λ reading.
    map (λ moves. let more : Reading = record {
      direction = reading.direction;
      moves =
          reading.moves ++ moves;
      members = reading.members;
    } in more)
    (one_of_each (filter_map (move_choices reading.direction) items))) made
split_by_moves-is items made = split_by_moves-all items made
    ∙ same_flat_map _ _ (λ reading. same_map _ _ (all_moves reading)
    (one_of_each (filter_map (move_choices reading.direction) items))) made

pub split_by_members-is : (names : Names) (rule : SourceRule) (items : List Item) (made : List Reading) →
    split_by_members names rule items made ≡ flat_map (λ reading.
    map (λ members. let more : Reading = record {
      direction = reading.direction;
      moves = reading.moves;
      members =
          reading.members ++ members;
    } in more)
    (one_of_each (filter_map (member_choices names rule) items))) made
split_by_members-is names rule items made =
    split_by_members-all names rule items made
    ∙ same_flat_map _ _ (λ reading. same_map _ _ (all_members reading)
    (one_of_each (filter_map (member_choices names rule) items))) made

-- the readings of a rule by stages
pub by_stages : ReadByStages
by_stages names rule =
    ap (split_by_members names rule (left_items rule))
    (split_by_moves-is (left_items rule) (map in_direction (directions_of rule))
    ∙ flat_map-map _ in_direction (directions_of rule))
    ∙ split_by_members-is names rule (left_items rule) _
    ∙ flat_map-flat_map _ _ (directions_of rule)
    ∙ same_flat_map _ _ (λ direction. flat_map-map _ _ (one_of_each (all_move_choices rule direction)))
    (directions_of rule)

-- the readings of a rule, one choice in the other
one_in_other_in : (names : Names) (rule : SourceRule) (direction : Direction) →
    nested_readings_in names rule direction ≡ readings_in (one_of_each (all_member_choices names rule)) rule direction
one_in_other_in names rule direction =
    ap (λ (chosen : List (List (ℕ × ObjectId))).
    flat_map (λ moves. map (λ members. let made : Reading =
    record { direction = direction; moves = moves; members = members } in made) chosen)
    (split_all (all_move_choices rule direction) ([] ∷ [])))
    (split_all-one_of_each (all_member_choices names rule))
    ∙ ap (flat_map (λ moves. map (λ members. let made : Reading =
    record { direction = direction; moves = moves; members = members } in made)
    (one_of_each (all_member_choices names rule)))) (split_all-one_of_each (all_move_choices rule direction))

pub one_in_other : ReadOneInOther
one_in_other names rule = same_flat_map _ _ (one_in_other_in names rule) (directions_of rule)

-- as many readings in a direction as there are ways to choose
length-readings_in : (names : Names) (rule : SourceRule) (direction : Direction) →
    length (readings_in (one_of_each (all_member_choices names rule)) rule direction) ≡ ways
    (all_move_choices rule direction) * ways (all_member_choices names rule)
length-readings_in names rule direction =
    length-flat_map_same _ (ways (all_member_choices names rule)) (λ moves.
    length-map (one_of_each (all_member_choices names rule)) _ ∙ length-one_of_each (all_member_choices names rule))
    (one_of_each (all_move_choices rule direction))
    ∙ ap (λ n. n * ways (all_member_choices names rule)) (length-one_of_each (all_move_choices rule direction))

-- the lengths of what each item gives, added up
length-added : {A B : Type 0} (f : A → List B) (count : A → ℕ) → ((item : A) → length (f item) ≡ count item) →
    (items : List A) (sum : ℕ) →
    sum + length (flat_map f items) ≡ fold (λ sum item. sum + count item) sum items
length-added f count same [] sum = omega arith
length-added f count same (item ∷ items) sum =
    ap (λ n. sum + n) (length-append (f item) (flat_map f items) ∙ ap (λ n. n + length (flat_map f items)) (same item))
    ∙ omega arith
    ∙ length-added f count same items (sum + count item)

from_nothing : (n : ℕ) → n ≡ 0 + n
from_nothing n = omega arith

-- the count of a rule's readings
pub counted : ReadingsCounted
counted names rule =
    from_nothing (length (readings names rule))
    ∙ length-added (readings_in (one_of_each (all_member_choices names rule)) rule) _ (length-readings_in names rule)
    (directions_of rule) 0
