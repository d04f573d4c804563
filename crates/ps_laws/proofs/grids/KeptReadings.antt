-- The readings of a game's rule choose objects of the game.
use Rattle.std.proofs.Common.{ℕ, ◌<◌, Option, Some, None, List, [], ◌∷◌, map}
use Rattle.std.specs.Prelude.{All, IfSome, ⊤}
use Rattle.std.specs.List.{flat_map}
use Rattle.std.proofs.lemmas.List.Elements.{All-nil, All-cons, All-head, All-tail}
use Rattle.ps_model.specs.declared.pieces.ObjectId.{ObjectId}
use Rattle.ps_model.specs.declared.pieces.Motion.{Motion}
use Rattle.ps_model.specs.names.Names.{Names, members, object_count}
use Rattle.ps_model.specs.rules.SourceRules.{Item, Is, No, SourceRule}
use Rattle.ps_model.specs.meaning.Occurrences.{cells_of, left_items, is_fixed}
use Rattle.ps_model.specs.meaning.Readings.{one_of_each, member_choices, all_member_choices, all_move_choices}
use Rattle.ps_model.specs.meaning.Readings.{readings_in, directions_of, readings}
use Rattle.ps_model.specs.meaning.GameRules.{IsItemOf, IsPairOf, IsRuleOf, IsChoiceOf, IsReadingOf}
use Rattle.ps_laws.proofs.common.Everywhere.{either_one, All-always, All-mapped, All-flat_map, All-joined}
use Rattle.ps_laws.proofs.common.Everywhere.{All-filter_map}

-- one of each list is of the kind of all
pub All-one_of_each : {A : Type 0} (P : A → Type 0) (lists : List (List A)) → All (All P) lists →
    All (All P) (one_of_each lists)
All-one_of_each P [] all = All-cons (All P) [] [] (All-nil P) (All-nil (All P))
All-one_of_each P (items ∷ others) all =
    let rests : All (All P) (one_of_each others) = All-one_of_each P others (All-tail (All P) items others all) in
    All-flat_map (All P) P (λ item. map (λ rest. item ∷ rest) (one_of_each others)) items
    (λ item p. All-mapped (All P) (All P) (λ rest. item ∷ rest) (one_of_each others) (λ rest q.
    All-cons P item rest p q) rests) (All-head (All P) items others all)

-- the cells of a game's rule
pub cells_of-game : (names : Names) (rule : SourceRule) → IsRuleOf names rule → All (IsPairOf names) (cells_of rule)
cells_of-game names rule all =
    All-flat_map (IsPairOf names) (All (All (IsPairOf names))) (λ row. flat_map (λ part. part) row) rule.rows (λ row h.
    All-joined (IsPairOf names) row h) all

-- the items of its left side
pub left_items-game : (names : Names) (rule : SourceRule) → IsRuleOf names rule → All (IsItemOf names) (left_items rule)
left_items-game names rule all = All-flat_map (IsItemOf names) (IsPairOf names) (λ cell.
    cell.left) (cells_of rule) (λ cell h. h.left) (cells_of-game names rule all)

-- the choices of an item
member_choices-game : (names : Names) (rule : SourceRule) (item : Item) → IsItemOf names item →
    IfSome (member_choices names rule item) (All (IsChoiceOf names))
member_choices-game names rule (Is number word meaning) h =
    either_one (λ (o : Option (List (ℕ × ObjectId))).
    IfSome o (All (IsChoiceOf names))) (is_fixed names rule meaning)
    (Some (map (λ object. (number, object)) (members meaning))) None
    (All-mapped (IsChoiceOf names) (λ object. object.0 < object_count names) (λ object.
    (number, object)) (members meaning) (λ object p. p) h) tt
member_choices-game names rule (No meaning) h = tt

-- the choices of a rule
all_member_choices-game : (names : Names) (rule : SourceRule) → IsRuleOf names rule →
    All (All (IsChoiceOf names)) (all_member_choices names rule)
all_member_choices-game names rule all =
    All-filter_map (All (IsChoiceOf names)) (IsItemOf names) (member_choices names rule) (left_items rule)
    (member_choices-game names rule) (left_items-game names rule all)

-- its readings
pub readings-game : (names : Names) (rule : SourceRule) → IsRuleOf names rule →
    All (IsReadingOf names) (readings names rule)
readings-game names rule all =
    let chosen : List (List (ℕ × ObjectId)) = one_of_each (all_member_choices names rule) in
    let each : All (All (IsChoiceOf names)) chosen =
    All-one_of_each (IsChoiceOf names) (all_member_choices names rule) (all_member_choices-game names rule all) in
    All-flat_map (IsReadingOf names) (λ direction.
    All (IsReadingOf names) (readings_in chosen rule direction)) (readings_in chosen rule) (directions_of rule)
    (λ direction h. h)
    (All-always (λ direction. All (IsReadingOf names) (readings_in chosen rule direction)) (directions_of rule)
    (λ direction. All-flat_map (IsReadingOf names) (λ (moves : List (ℕ × Motion)). ⊤) (λ moves.
    map (λ members. record { direction = direction; moves = moves; members = members }) chosen)
    (one_of_each (all_move_choices rule direction))
    (λ moves t. All-mapped (IsReadingOf names) (All (IsChoiceOf names)) (λ members.
    record { direction = direction; moves = moves; members = members }) chosen (λ members h. h) each)
    (All-always (λ (moves : List (ℕ × Motion)). ⊤) (one_of_each (all_move_choices rule direction)) (λ moves. tt))))
