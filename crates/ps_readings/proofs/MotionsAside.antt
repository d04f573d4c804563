-- Whether a reading is possible is told by its members alone: neither its direction nor its moves make a difference.
use Rattle.std.proofs.Common.{◌≡◌, ℕ, Bool, true, false, ◌&&◌, not, nat_eq, Option, Some, None, List, [], ◌∷◌, map}
use Rattle.std.proofs.Common.{refl, sym, ◌∙◌, ap}
use Rattle.std.specs.Prelude.{if◌then◌else◌}
use Rattle.std.specs.Map.{lookup}
use Rattle.std.specs.List.{flat_map, list_any}
use Rattle.std.proofs.lemmas.List.Folds.{flat_map-map}
use Rattle.std.proofs.lemmas.Simd.{map-map}
use Rattle.ps_model.specs.declared.pieces.ObjectId.{ObjectId}
use Rattle.ps_model.specs.declared.pieces.Motion.{Motion}
use Rattle.ps_model.specs.declared.compiled.Claim.{Claim}
use Rattle.ps_model.specs.names.Names.{Meaning, One, AllOf, AnyOf, Names, layer_of}
use Rattle.ps_model.specs.rules.SourceRules.{Item, Is, No, CellPair, SourceRule}
use Rattle.ps_model.specs.meaning.Occurrences.{cells_of, bound_name, bound_word, is_fixed}
use Rattle.ps_model.specs.meaning.Readings.{Reading}
use Rattle.ps_model.specs.meaning.Wanted.{Wanted, one_member, chosen_member, motion_of_word, wanted_name, wanted_left}
use Rattle.ps_model.specs.meaning.Wanted.{wanted_right, Each, Any}
use Rattle.ps_model.specs.meaning.Rewriting.{claims_of, loose_claim, object_claim}
use Rattle.ps_model.specs.meaning.ReadingMeanings.{are_apart, is_possible_cell, is_possible, left_of_cell}
use Rattle.ps_model.specs.meaning.ReadingMeanings.{right_of_cell}
use Rattle.ps_laws.proofs.common.Stages.{map-flat_map, same_flat_map}
use Rattle.ps_laws.proofs.common.Lists.{any-map}
use Rattle.ps_readings.proofs.Quantified.{all_same}

-- layers --------------------------------------------------------------------------------------------------------------

-- the layer of a claim
abbrev layer_in : Claim → ℕ
layer_in claim = (claim.layer).0

-- no layer comes twice
abbrev are_distinct : List ℕ → Bool
are_distinct [] = true
are_distinct (layer ∷ layers) = not (list_any (nat_eq layer) layers) && are_distinct layers

-- claims are apart where their layers are distinct
apart_layers : (claims : List Claim) → are_apart claims ≡ are_distinct (map layer_in claims)
apart_layers [] = refl
apart_layers (claim ∷ others) =
    ap (λ b. not b && are_apart others) (sym (any-map (nat_eq (claim.layer).0) layer_in others))
    ∙ ap (λ b. not (list_any (nat_eq (claim.layer).0) (map layer_in others)) && b) (apart_layers others)

-- the layers that items claim, one after the other
side_layers : (names : Names) (wanted : Item → Wanted) (items : List Item) →
    map layer_in (flat_map (claims_of names) (map wanted items)) ≡ flat_map (λ item.
    map layer_in (claims_of names (wanted item))) items
side_layers names wanted items = ap (map layer_in) (flat_map-map (claims_of names) wanted items)
    ∙ map-flat_map layer_in (λ item. claims_of names (wanted item)) items

-- sides of which each item claims the same layers
side_alike : (names : Names) (first second : Item → Wanted) →
    ((item : Item) → map layer_in (claims_of names (first item)) ≡ map layer_in (claims_of names (second item)))
    → (items : List Item) → are_apart (flat_map (claims_of names) (map first items)) ≡ are_apart
    (flat_map (claims_of names) (map second items))
side_alike names first second same items =
    apart_layers (flat_map (claims_of names) (map first items))
    ∙ ap are_distinct (side_layers names first items ∙ same_flat_map _ _ same items
    ∙ sym (side_layers names second items))
    ∙ sym (apart_layers (flat_map (claims_of names) (map second items)))

-- names ---------------------------------------------------------------------------------------------------------------

each_layer : (names : Names) (motion : Option Motion) (objects : List ObjectId) →
    map layer_in (claims_of names (Each objects motion)) ≡ map (layer_of names) objects
each_layer names motion objects = map-map layer_in (object_claim names motion) objects

loose_layer : (names : Names) (first second : Option Motion) (objects : List ObjectId) →
    map layer_in (loose_claim names first objects) ≡ map layer_in (loose_claim names second objects)
loose_layer names first second [] = refl
loose_layer names first second (object ∷ others) = refl

property_layers : (names : Names) (fixed : Bool) (members others objects : List ObjectId)
    (first second : Option Motion) → members ≡ others
    → map layer_in (claims_of names (if fixed then Each members first else Any objects first)) ≡ map layer_in
    (claims_of names (if fixed then Each others second else Any objects second))
property_layers names true members others objects first second e = each_layer names first members
    ∙ ap (map (layer_of names)) e ∙ sym (each_layer names second others)
property_layers names false members others objects first second e = loose_layer names first second objects

module _ (names : Names) (rule : SourceRule) (one other : Reading) (same : one.members ≡ other.members) where
  chosen_same : (bound : Option ℕ) → chosen_member one bound ≡ chosen_member other bound
  chosen_same None = refl
  chosen_same (Some number) = ap (λ (members : List (ℕ × ObjectId)). one_member (lookup (nat_eq number) members)) same

  name_layers : (bound : Option ℕ) (meaning : Meaning) (first second : Option Motion)
      → map layer_in (claims_of names (wanted_name names rule one bound meaning first)) ≡ map layer_in
      (claims_of names (wanted_name names rule other bound meaning second))
  name_layers bound (One object) first second = refl
  name_layers bound (AllOf line objects) first second = each_layer names first objects
      ∙ sym (each_layer names second objects)
  name_layers bound (AnyOf line objects) first second =
      property_layers names (is_fixed names rule (AnyOf line objects)) (chosen_member one bound)
      (chosen_member other bound) objects first second (chosen_same bound)

  left_layers : (item : Item) → map layer_in (claims_of names (wanted_left names rule one item)) ≡ map layer_in
      (claims_of names (wanted_left names rule other item))
  left_layers (Is number None meaning) = name_layers (Some number) meaning None None
  left_layers (Is number (Some word) meaning) =
      name_layers (Some number) meaning (motion_of_word one (Some number) word)
      (motion_of_word other (Some number) word)
  left_layers (No meaning) = refl

  right_layers : (cell : CellPair) (item : Item) →
      map layer_in (claims_of names (wanted_right names rule cell one item)) ≡ map layer_in
      (claims_of names (wanted_right names rule cell other item))
  right_layers cell (Is number None meaning) = name_layers (bound_name rule cell meaning) meaning None None
  right_layers cell (Is number (Some word) meaning) =
      name_layers (bound_name rule cell meaning) meaning (motion_of_word one (bound_word rule cell word meaning) word)
      (motion_of_word other (bound_word rule cell word meaning) word)
  right_layers cell (No meaning) = refl

  pub cell_alike : (cell : CellPair) → is_possible_cell names rule one cell ≡ is_possible_cell names rule other cell
  cell_alike cell =
      ap (λ b. b && are_apart (flat_map (claims_of names) (right_of_cell names rule one cell)))
      (side_alike names (wanted_left names rule one) (wanted_left names rule other) left_layers cell.left)
      ∙ ap (λ b. are_apart (flat_map (claims_of names) (left_of_cell names rule other cell)) && b)
      (side_alike names (wanted_right names rule cell one) (wanted_right names rule cell other) (right_layers cell)
      cell.right)

  -- readings with the same members are both possible or both impossible
  pub possible_alike : is_possible names rule one ≡ is_possible names rule other
  possible_alike = all_same _ _ cell_alike (cells_of rule)
