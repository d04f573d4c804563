-- The readings of a rule's turns are the rule's readings.
use Rattle.std.proofs.Common.{◌≡◌, ℕ, suc, Bool, true, false, ◌+◌, ◌<◌, List, [], ◌∷◌, ◌++◌, length, get_or, map, drop}
use Rattle.std.proofs.Common.{refl, sym, ap, ◌∙◌, arith}
use Rattle.ps_rules.proofs.Loops.{drop-at}
use Rattle.std.specs.List.{flat_map}
use Rattle.std.proofs.lemmas.Grind.{flat_map-append}
use Rattle.std.proofs.lemmas.List.Folds.{flat_map-map}
use Rattle.ps_model.specs.declared.pieces.ObjectId.{ObjectId}
use Rattle.ps_model.specs.declared.pieces.Direction.{Direction}
use Rattle.ps_model.specs.declared.pieces.Motion.{Motion}
use Rattle.ps_model.specs.rules.SourceRules.{SourceRule}
use Rattle.ps_model.specs.meaning.Readings.{Reading, one_of_each, all_move_choices, readings_in}
use Rattle.ps_model.specs.names.Names.{Names}
use Rattle.ps_model.specs.meaning.Readings.{all_member_choices, directions_of, readings}
use Rattle.ps_readings.specs.TurnsMade.{turn, turns_in, with_members, readings_of_turn}
use Rattle.ps_readings.specs.Wheels.{taken}

-- those of the turns in one direction are those in that direction
turned-readings : (members_chosen : List (List (ℕ × ObjectId))) (rule : SourceRule) (direction : Direction) →
    flat_map (readings_of_turn members_chosen) (turns_in rule direction) ≡ readings_in members_chosen rule direction
turned-readings members_chosen rule direction =
    flat_map-map (readings_of_turn members_chosen) (turn direction) (one_of_each (all_move_choices rule direction))

pub all-readings : (members_chosen : List (List (ℕ × ObjectId))) (rule : SourceRule) (directions : List Direction) →
    flat_map (readings_of_turn members_chosen) (flat_map (turns_in rule) directions) ≡ flat_map
    (readings_in members_chosen rule) directions
all-readings members_chosen rule [] = refl
all-readings members_chosen rule (direction ∷ directions) =
    flat_map-append (readings_of_turn members_chosen) (turns_in rule direction) (flat_map (turns_in rule) directions)
    ∙ ap (λ front. front ++ flat_map (readings_of_turn members_chosen) (flat_map (turns_in rule) directions))
    (turned-readings members_chosen rule direction)
    ∙ ap (λ behind. readings_in members_chosen rule direction ++ behind) (all-readings members_chosen rule directions)

-- where there are no members to choose, no turn has a reading
pub no-readings : (turns : List Reading) → flat_map (readings_of_turn []) turns ≡ []
no-readings [] = refl
no-readings (turn ∷ turns) = no-readings turns

-- the turns of a direction and of those after it
pub faced : (rule : SourceRule) (directions : List Direction) (place : ℕ) (direction : Direction)
    (ways lists : List (List (ℕ × Motion))) → place < length directions →
    direction ≡ get_or directions place direction → ways ≡ one_of_each lists → lists ≡ all_move_choices rule direction →
    flat_map (turns_in rule) (drop place directions) ≡ map (turn direction) ways ++ flat_map (turns_in rule)
    (drop (place + 1) directions)
faced rule directions place direction ways lists less is w l =
    let next : place + 1 ≡ suc place = omega arith in
    let there : drop place directions ≡ direction ∷ drop (place + 1) directions =
    drop-at direction directions place (place + 1) less is next in
    rw (there, w, l) refl

-- before the first turn all readings are left
pub begun : (last : Reading) (names : Names) (rule : SourceRule) (left shown lists : List (List (ℕ × ObjectId)))
    (turns : List Reading) → left ≡ [] → shown ≡ lists →
    lists ≡ all_member_choices names rule → turns ≡ flat_map (turns_in rule) (directions_of rule) →
    map (with_members last) left ++ flat_map (readings_of_turn (one_of_each shown)) turns ≡ readings names rule
begun last names rule left shown lists turns none same made all =
    rw (none, same, made, all) (all-readings (one_of_each (all_member_choices names rule)) rule (directions_of rule))

-- the readings of the next turn
next-turn : (direction : Direction) (moves : List (ℕ × Motion)) (more : Bool) (way : List (ℕ × ObjectId))
    (all left : List (List (ℕ × ObjectId))) (turns : List Reading) → all ≡ taken more way left →
    readings_of_turn all (turn direction moves) ++ flat_map (readings_of_turn all) turns
    ≡ taken more (with_members (turn direction moves) way)
    (map (with_members (with_members (turn direction moves) way)) left ++ flat_map (readings_of_turn all) turns)
next-turn direction moves true way all left turns e =
    ap (λ (ways : List (List (ℕ × ObjectId))).
    readings_of_turn ways (turn direction moves) ++ flat_map (readings_of_turn all) turns) e
next-turn direction moves false way all left turns e =
    ap (λ (ways : List (List (ℕ × ObjectId))).
    readings_of_turn ways (turn direction moves) ++ flat_map (readings_of_turn ways) turns) e ∙ no-readings turns

pub none-taken : {A : Type 0} (more : Bool) (first : A) (others all : List A) → all ≡ taken more first others →
    more ≡ false → all ≡ []
none-taken true first others all e n = cc
none-taken false first others all e n = e

pub one-taken : {A : Type 0} (more : Bool) (first : A) (others all : List A) → all ≡ taken more first others →
    more ≡ true → all ≡ first ∷ others
one-taken true first others all e n = e
one-taken false first others all e n = cc

-- a turn is spent, and the next one begun
pub stepped : (last : Reading) (direction : Direction) (moves : List (ℕ × Motion)) (more : Bool)
    (way : List (ℕ × ObjectId)) (before shown kept again all left : List (List (ℕ × ObjectId)))
    (turns others : List Reading) → before ≡ [] → turns ≡ turn direction moves ∷ others → kept ≡ shown → again ≡ kept →
    all ≡ one_of_each kept → all ≡ taken more way left →
    map (with_members last) before ++ flat_map (readings_of_turn (one_of_each shown)) turns
    ≡ taken more (with_members (turn direction moves) way)
    (map (with_members (with_members (turn direction moves) way)) left ++ flat_map
    (readings_of_turn (one_of_each again)) others)
stepped last direction moves more way before shown kept again all left turns others none next same still rest e =
    let first : one_of_each shown ≡ all = ap one_of_each (sym same) ∙ sym rest in
    let second : one_of_each again ≡ all = ap one_of_each still ∙ sym rest in
    ap (λ (ways : List (List (ℕ × ObjectId))).
    map (with_members last) ways ++ flat_map (readings_of_turn (one_of_each shown)) turns) none
    ∙ ap (λ (met : List Reading). flat_map (readings_of_turn (one_of_each shown)) met) next
    ∙ ap (λ (ways : List (List (ℕ × ObjectId))). flat_map (readings_of_turn ways) (turn direction moves ∷ others)) first
    ∙ next-turn direction moves more way all left others e
    ∙ ap (λ (ways : List (List (ℕ × ObjectId))).
    taken more (with_members (turn direction moves) way)
    (map (with_members (with_members (turn direction moves) way)) left ++ flat_map (readings_of_turn ways) others))
    (sym second)
