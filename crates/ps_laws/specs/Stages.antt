-- Choices made stage by stage: all that is made so far is split by one occurrence after the other. So a rule gives a
-- rule for each of its directions; each of these one for each choice of moves; and each of these one for each choice of
-- members.
use Rattle.std.specs.Prelude.{ℕ, Option, Some, None, List, [], ◌∷◌, ◌++◌, map, ◌≡◌, length}
use Rattle.std.specs.List.{flat_map}
use Rattle.ps_model.specs.declared.pieces.ObjectId.{ObjectId}
use Rattle.ps_model.specs.declared.pieces.Direction.{Direction}
use Rattle.ps_model.specs.declared.pieces.Motion.{Motion}
use Rattle.ps_model.specs.names.Names.{Names}
use Rattle.ps_model.specs.rules.SourceRules.{Item, SourceRule}
use Rattle.ps_model.specs.meaning.Occurrences.{left_items}
use Rattle.ps_model.specs.meaning.Readings.{Reading, one_of_each, directions_of, move_choices, member_choices}
use Rattle.ps_model.specs.meaning.Readings.{all_move_choices, all_member_choices, readings, reading_count}

-- lists of choices ----------------------------------------------------------------------------------------------------

-- each list made so far is split by the items of one more: each item in turn after it
abbrev pub split_by : {A : Type 0} → List A → List (List A) → List (List A)
split_by items made = flat_map (λ chosen. map (λ item. chosen ++ item ∷ []) items) made

-- all that is made so far is split by one list after the other
abbrev pub split_all : {A : Type 0} → List (List A) → List (List A) → List (List A)
split_all [] made = made
split_all (items ∷ others) made = split_all others (split_by items made)

-- readings in the making ----------------------------------------------------------------------------------------------

-- a rule in one direction, of which nothing else is chosen
abbrev pub in_direction : Direction → Reading
in_direction direction = record { direction = direction; moves = []; members = [] }

-- one more move is chosen, and one more member
abbrev pub with_move : Reading → ℕ × Motion → Reading
with_move reading move = record {
  direction = reading.direction;
  moves = reading.moves ++ move ∷ [];
  members =
      reading.members;
}

abbrev pub with_member : Reading → ℕ × ObjectId → Reading
with_member reading member = record {
  direction = reading.direction;
  moves = reading.moves;
  members =
      reading.members ++ member ∷ [];
}

-- one reading is split by the choices of an occurrence; without choices it stays as it is
abbrev pub split_reading : {A : Type 0} → (Reading → A → Reading) → Option (List A) → Reading → List Reading
split_reading with None reading = reading ∷ []
split_reading with (Some choices) reading = map (with reading) choices

-- the moves' stage: the readings made so far are split by the moves of one occurrence after the other
abbrev pub split_by_moves : List Item → List Reading → List Reading
split_by_moves [] made = made
split_by_moves (item ∷ items) made = split_by_moves items
    (flat_map (λ reading. split_reading with_move (move_choices reading.direction item) reading) made)

-- the members' stage: the readings made so far are split by the members of one occurrence after the other
abbrev pub split_by_members : Names → SourceRule → List Item → List Reading → List Reading
split_by_members names rule [] made = made
split_by_members names rule (item ∷ items) made =
    split_by_members names rule items (flat_map (λ reading.
    split_reading with_member (member_choices names rule item) reading) made)

-- the readings of a rule, stage by stage
abbrev pub staged_readings : Names → SourceRule → List Reading
staged_readings names rule =
    split_by_members names rule (left_items rule)
    (split_by_moves (left_items rule) (map in_direction (directions_of rule)))

-- the readings in one direction, one choice in the other: each choice of moves is split by all members
abbrev pub nested_readings_in : Names → SourceRule → Direction → List Reading
nested_readings_in names rule direction =
    let members_chosen : List (List (ℕ × ObjectId)) = split_all (all_member_choices names rule) ([] ∷ []) in
    let moves_chosen : List (List (ℕ × Motion)) = split_all (all_move_choices rule direction) ([] ∷ []) in
    flat_map (λ moves. map (λ members. record { direction = direction; moves = moves; members = members })
    members_chosen) moves_chosen

-- the readings of a rule, each direction by itself, and in it each choice of moves by itself
abbrev pub nested_readings : Names → SourceRule → List Reading
nested_readings names rule = flat_map (nested_readings_in names rule) (directions_of rule)

-- laws ----------------------------------------------------------------------------------------------------------------

-- splitting all that is made so far by one occurrence after the other makes one of each, in order
abbrev pub OneByOne : Type 0 → Type 0
OneByOne A = (choices : List (List A)) → split_all choices ([] ∷ []) ≡ one_of_each choices

-- one of each of all lists is one of each of the first lists, and after each of these one of each of the others
abbrev pub InTwoStages : Type 0 → Type 0
InTwoStages A = (first second : List (List A)) →
    one_of_each (first ++ second) ≡ flat_map (λ front.
    map (λ behind. front ++ behind) (one_of_each second)) (one_of_each first)

-- both hold of moves, and of members
abbrev pub MovesOneByOne : Type 0
MovesOneByOne = OneByOne (ℕ × Motion)

abbrev pub MembersOneByOne : Type 0
MembersOneByOne = OneByOne (ℕ × ObjectId)

abbrev pub MovesInTwoStages : Type 0
MovesInTwoStages = InTwoStages (ℕ × Motion)

abbrev pub MembersInTwoStages : Type 0
MembersInTwoStages = InTwoStages (ℕ × ObjectId)

-- the readings made stage by stage are the readings of the rule, in their one order
abbrev pub ReadByStages : Type 0
ReadByStages = (names : Names) (rule : SourceRule) → staged_readings names rule ≡ readings names rule

-- and so are those made one choice in the other: first by the moves, and then each of the rules so made by the members
abbrev pub ReadOneInOther : Type 0
ReadOneInOther = (names : Names) (rule : SourceRule) → nested_readings names rule ≡ readings names rule

-- the count of a rule's readings counts them
abbrev pub ReadingsCounted : Type 0
ReadingsCounted = (names : Names) (rule : SourceRule) → length (readings names rule) ≡ reading_count names rule
