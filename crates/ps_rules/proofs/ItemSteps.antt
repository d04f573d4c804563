-- One item, or one object, more of those in which something is looked for twice.
use Rattle.std.proofs.Common.{◌≡◌, ◌∙◌, ℕ, ◌+◌, ◌<◌, Bool, true, false, ◌||◌, List, [], ◌∷◌, ◌++◌, length, drop, get_or}
use Rattle.std.proofs.Common.{refl, sym, ap, add-one}
use Rattle.std.specs.List.{flat_map, filter_map}
use Rattle.std.specs.Option.{option_to_list}
use Rattle.std.proofs.lemmas.List.{map-append}
use Rattle.std.proofs.lemmas.List.Concat.{flat_map-cons}
use Rattle.ps_model.specs.declared.pieces.ObjectId.{ObjectId}
use Rattle.ps_model.specs.rules.RuleNameFaults.{objects_named, property_named}
use Rattle.ps_rules.specs.declared.tree.Item.{Item}
use Rattle.ps_rules.specs.RulesShown.{item_shown, items_shown}
use Rattle.ps_rules.specs.Twice.{twice_behind, object_numbers}
use Rattle.ps_names.proofs.common.Loops.{option-first}
use Rattle.ps_rules.proofs.Loops.{drop-at, drop-from}

-- the numbers of the objects that the items from a place on name
pub objects-from : (items : List Item) (k : ℕ) (item : Item) → k < length items → item ≡ get_or items k item →
    object_numbers (flat_map objects_named (items_shown (drop k items)))
    ≡ object_numbers (objects_named (item_shown item))
    ++ object_numbers (flat_map objects_named (items_shown (drop (k + 1) items)))
objects-from items k item less e =
    ap (λ (xs : List Item). object_numbers (flat_map objects_named (items_shown xs)))
    (drop-at item items k (k + 1) less e (add-one k))
    ∙ ap object_numbers (flat_map-cons objects_named (item_shown item) (items_shown (drop (k + 1) items)))
    ∙ map-append (λ (object : ObjectId). object.0) (objects_named (item_shown item))
    (flat_map objects_named (items_shown (drop (k + 1) items)))

-- the lines of the properties that the items from a place on name
pub properties-from : (items : List Item) (k : ℕ) (item : Item) → k < length items → item ≡ get_or items k item →
    filter_map property_named (items_shown (drop k items))
    ≡ option_to_list (property_named (item_shown item))
    ++ filter_map property_named (items_shown (drop (k + 1) items))
properties-from items k item less e =
    ap (λ (xs : List Item). filter_map property_named (items_shown xs))
    (drop-at item items k (k + 1) less e (add-one k))
    ∙ option-first (property_named (item_shown item)) (filter_map property_named (items_shown (drop (k + 1) items)))

-- the numbers of the objects from a place on, with others after
pub numbers-from : (objects : List ObjectId) (k : ℕ) (d : ObjectId) (rest : List ℕ) → k < length objects →
    object_numbers (drop k objects) ++ rest
    ≡ (get_or objects k d).0 ∷ (object_numbers (drop (k + 1) objects) ++ rest)
numbers-from objects k d rest less =
    ap (λ (xs : List ObjectId). object_numbers xs ++ rest)
    (drop-from (get_or objects k d) d objects k (k + 1) less refl (add-one k))

-- where one of the first was seen, something stands twice
pub seen-again : (seen new first others left all : List ℕ) (again : Bool) → left ≡ first ++ others →
    twice_behind seen (first ++ others) ≡ (again || twice_behind new others) → again ≡ true →
    twice_behind seen left ≡ twice_behind [] all → true ≡ twice_behind [] all
seen-again seen new first others left all again e told h same =
    sym (ap (twice_behind seen) e ∙ told ∙ ap (λ b. b || twice_behind new others) h) ∙ same

-- where none of the first was seen, it is left to the others
pub not-seen : (seen new first others left all : List ℕ) (again : Bool) → left ≡ first ++ others →
    twice_behind seen (first ++ others) ≡ (again || twice_behind new others) → again ≡ false →
    twice_behind seen left ≡ twice_behind [] all → twice_behind new others ≡ twice_behind [] all
not-seen seen new first others left all again e told h same =
    sym (ap (twice_behind seen) e ∙ told ∙ ap (λ b. b || twice_behind new others) h) ∙ same
