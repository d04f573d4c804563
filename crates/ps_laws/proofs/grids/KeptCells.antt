-- What a cell of a game's rule makes of a cell of the game is a cell of the game.
use Rattle.std.proofs.Common.{◌≡◌, ℕ, suc, ◌<◌, Bool, true, false, cond, Option, Some, None, List, [], ◌∷◌, length, map}
use Rattle.std.proofs.Common.{refl, ◌∙◌, ap}
use Rattle.std.specs.Prelude.{All, IfSome, ⊤, nat_eq}
use Rattle.std.specs.List.{flat_map}
use Rattle.std.specs.Map.{lookup}
use Rattle.std.proofs.lemmas.Bool.{eqb-true}
use Rattle.std.proofs.lemmas.List.Elements.{All-nil, All-cons, All-head, All-tail, All-filter}
use Rattle.ps_model.specs.declared.pieces.ObjectId.{ObjectId}
use Rattle.ps_model.specs.declared.pieces.LayerId.{LayerId}
use Rattle.ps_model.specs.declared.pieces.Motion.{Motion}
use Rattle.ps_model.specs.declared.compiled.Claim.{Claim}
use Rattle.ps_model.specs.declared.pieces.Slot.{Slot}
use Rattle.ps_model.specs.declared.pieces.Slot.TheVariants.{Bare, Holds}
use Rattle.ps_model.specs.names.Names.{Meaning, One, AllOf, AnyOf, Names, layer_of, is_among, object_count}
use Rattle.ps_model.specs.names.NameBounds.{IsBelow}
use Rattle.ps_model.specs.rules.SourceRules.{Item, Is, No, CellPair, SourceRule}
use Rattle.ps_model.specs.meaning.Occurrences.{is_fixed, bound_name, bound_word}
use Rattle.ps_model.specs.meaning.Readings.{Reading, readings}
use Rattle.ps_model.specs.meaning.RuleMeanings.{CellMeaning}
use Rattle.ps_model.specs.meaning.Wanted.{Wanted, Each, Any, Without, denied, one_member, chosen_member, motion_of_word}
use Rattle.ps_model.specs.meaning.Wanted.{wanted_name, wanted_right}
use Rattle.ps_model.specs.meaning.Rewriting.{own_layer, object_claim, loose_claim, claims_of, slot_without, claim_on}
use Rattle.ps_model.specs.meaning.Rewriting.{claimed, rewritten_slot, rewritten_from}
use Rattle.ps_model.specs.meaning.ReadingMeanings.{left_of_cell, right_of_cell, cell_meaning, is_possible}
use Rattle.ps_model.specs.meaning.ReadingMeanings.{reading_meaning, meanings}
use Rattle.ps_model.specs.board.GameGrids.{IsSlotOf, IsCellFrom, IsCellOf}
use Rattle.ps_model.specs.meaning.GameRules.{IsItemOf, IsPairOf, IsRuleOf, IsChoiceOf, IsReadingOf}
use Rattle.ps_laws.specs.KeptGrids.{KeepsCells, Keeps}
use Rattle.ps_laws.proofs.common.Everywhere.{either_one, All-mapped, All-flat_map}
use Rattle.ps_laws.proofs.grids.KeptReadings.{readings-game}

-- what is wanted ------------------------------------------------------------------------------------------------------

-- the object is one of the game
abbrev pub IsObjectOf : Names → ObjectId → Type 0
IsObjectOf names object = object.0 < object_count names

-- each object that is wanted by its name is one of the game
abbrev pub IsWantedOf : Names → Wanted → Type 0
IsWantedOf names (Each objects motion) = All (IsObjectOf names) objects
IsWantedOf names (Any objects motion) = ⊤
IsWantedOf names (Without objects) = ⊤

chosen_of : (names : Names) (number : ℕ) (choices : List (ℕ × ObjectId)) → All (IsChoiceOf names) choices →
    All (IsObjectOf names) (one_member (lookup (nat_eq number) choices))
chosen_of names number [] all = All-nil (IsObjectOf names)
chosen_of names number (choice ∷ others) all =
    either_one (λ (o : Option ObjectId). All (IsObjectOf names) (one_member o)) (nat_eq number choice.0)
    (Some choice.1) (lookup (nat_eq number) others)
    (All-cons (IsObjectOf names) choice.1 [] (All-head (IsChoiceOf names) choice others all)
    (All-nil (IsObjectOf names)))
    (chosen_of names number others (All-tail (IsChoiceOf names) choice others all))

-- a chosen member
chosen_member-game : (names : Names) (reading : Reading) (bound : Option ℕ) → IsReadingOf names reading →
    All (IsObjectOf names) (chosen_member reading bound)
chosen_member-game names reading None all = All-nil (IsObjectOf names)
chosen_member-game names reading (Some number) all = chosen_of names number reading.members all

wanted_name-game : (names : Names) (rule : SourceRule) (reading : Reading) (bound : Option ℕ) (meaning : Meaning)
    (motion : Option Motion) →
    IsReadingOf names reading → IsBelow (object_count names) meaning →
    IsWantedOf names (wanted_name names rule reading bound meaning motion)
wanted_name-game names rule reading bound (One object) motion chosen h = h
wanted_name-game names rule reading bound (AllOf line objects) motion chosen h = h
wanted_name-game names rule reading bound (AnyOf line objects) motion chosen h =
    either_one (IsWantedOf names) (is_fixed names rule (AnyOf line objects))
    (Each (chosen_member reading bound) motion) (Any objects motion)
    (chosen_member-game names reading bound chosen) tt

-- what an item of the right wants
wanted_right-game : (names : Names) (rule : SourceRule) (cell : CellPair) (reading : Reading) (item : Item) →
    IsReadingOf names reading → IsItemOf names item →
    IsWantedOf names (wanted_right names rule cell reading item)
wanted_right-game names rule cell reading (Is number None meaning) chosen h =
    wanted_name-game names rule reading (bound_name rule cell meaning) meaning None chosen h
wanted_right-game names rule cell reading (Is number (Some word) meaning) chosen h =
    wanted_name-game names rule reading (bound_name rule cell meaning) meaning
    (motion_of_word reading (bound_word rule cell word meaning) word) chosen h
wanted_right-game names rule cell reading (No meaning) chosen h = tt

-- claims --------------------------------------------------------------------------------------------------------------

-- a claim that names an object names one of the game, on its own layer
abbrev pub IsClaimOf : Names → Claim → Type 0
IsClaimOf names claim = IfSome claim.object (λ object.
    (object.0 < object_count names) × (layer_of names object ≡ (claim.layer).0))

loose_claim-game : (names : Names) (motion : Option Motion) (objects : List ObjectId) →
    All (IsClaimOf names) (loose_claim names motion objects)
loose_claim-game names motion [] = All-nil (IsClaimOf names)
loose_claim-game names motion (first ∷ others) =
    All-cons (IsClaimOf names) (record { layer = own_layer names first; object = None; motion = motion }) [] tt
    (All-nil (IsClaimOf names))

claims_of-game : (names : Names) (wanted : Wanted) → IsWantedOf names wanted →
    All (IsClaimOf names) (claims_of names wanted)
claims_of-game names (Each objects motion) h =
    All-mapped (IsClaimOf names) (IsObjectOf names) (object_claim names motion) objects (λ object p. (p, refl)) h
claims_of-game names (Any objects motion) h = loose_claim-game names motion objects
claims_of-game names (Without objects) h = All-nil (IsClaimOf names)

-- a claim on a layer, and of the game
abbrev pub IsClaimOn : Names → ℕ → Claim → Type 0
IsClaimOn names layer claim = ((claim.layer).0 ≡ layer) × IsClaimOf names claim

claim_is : (names : Names) (layer : ℕ) (claim : Claim) (same : Bool) (rest : Option Claim) →
    nat_eq (claim.layer).0 layer ≡ same → IsClaimOf names claim → IfSome rest (IsClaimOn names layer) →
    IfSome (cond same (Some claim) rest) (IsClaimOn names layer)
claim_is names layer claim true rest e h others = (eqb-true (claim.layer).0 layer e, h)
claim_is names layer claim false rest e h others = others

claim_on-game : (names : Names) (layer : ℕ) (claims : List Claim) → All (IsClaimOf names) claims →
    IfSome (claim_on layer claims) (IsClaimOn names layer)
claim_on-game names layer [] all = tt
claim_on-game names layer (claim ∷ others) all =
    claim_is names layer claim (nat_eq (claim.layer).0 layer) (claim_on layer others) refl
    (All-head (IsClaimOf names) claim others all)
    (claim_on-game names layer others (All-tail (IsClaimOf names) claim others all))

-- slots ---------------------------------------------------------------------------------------------------------------

slot_without-game : (names : Names) (layer : ℕ) (gone : List ObjectId) (slot : Slot) → IsSlotOf names layer slot →
    IsSlotOf names layer (slot_without gone slot)
slot_without-game names layer gone Bare h = tt
slot_without-game names layer gone (Holds object motion) h =
    either_one (IsSlotOf names layer) (is_among gone object) Bare (Holds object motion) tt h

claimed-game : (names : Names) (layer : ℕ) (on : LayerId) (object : Option ObjectId) (motion : Option Motion)
    (left : Option Claim) (slot : Slot) →
    IsClaimOn names layer (record { layer = on; object = object; motion = motion }) → IsSlotOf names layer slot →
    IsSlotOf names layer (claimed (record { layer = on; object = object; motion = motion }) left slot)
claimed-game names layer on None motion left Bare h s = tt
claimed-game names layer on None motion left (Holds held was) h s = s
claimed-game names layer on (Some object) motion left slot h s = (h.1.0, h.1.1 ∙ h.0)

rewritten_slot-game : (names : Names) (layer : ℕ) (left right : Option Claim) (slot : Slot) →
    IfSome right (IsClaimOn names layer) → IsSlotOf names layer slot →
    IsSlotOf names layer (rewritten_slot left right slot)
rewritten_slot-game names layer None None slot h s = s
rewritten_slot-game names layer (Some claim) None slot h s = tt
rewritten_slot-game names layer left (Some claim) slot h s =
    claimed-game names layer claim.layer claim.object claim.motion left slot h s

-- cells ---------------------------------------------------------------------------------------------------------------

length-rewritten_from : (left right : List Claim) (gone : List ObjectId) (layer : ℕ) (slots : List Slot) →
    length (rewritten_from left right gone layer slots) ≡ length slots
length-rewritten_from left right gone layer [] = refl
length-rewritten_from left right gone layer (slot ∷ slots) =
    ap suc (length-rewritten_from left right gone (suc layer) slots)

rewritten_from-game : (names : Names) (left right : List Claim) (gone : List ObjectId) (layer : ℕ) (slots : List Slot)
    → All (IsClaimOf names) right → IsCellFrom names layer slots →
    IsCellFrom names layer (rewritten_from left right gone layer slots)
rewritten_from-game names left right gone layer [] all h = tt
rewritten_from-game names left right gone layer (slot ∷ slots) all h = (
  rewritten_slot-game names layer (claim_on layer left) (claim_on layer right) (slot_without gone slot)
      (claim_on-game names layer right all) (slot_without-game names layer gone slot h.0),
  rewritten_from-game names left right gone (suc layer) slots all h.1,
)

-- a cell rewritten by claims of a game
pub rewritten-game : (names : Names) (left right : List Claim) (gone : List ObjectId) (cell : List Slot) →
    All (IsClaimOf names) right → IsCellOf names cell →
    IsCellOf names (rewritten_from left right gone 0 cell)
rewritten-game names left right gone cell all h =
    (length-rewritten_from left right gone 0 cell ∙ h.0, rewritten_from-game names left right gone 0 cell all h.1)

-- what the right of a cell claims, under a reading whose members are objects of the game
pub right_claims-game : (names : Names) (rule : SourceRule) (reading : Reading) (cell : CellPair) →
    IsReadingOf names reading → IsPairOf names cell →
    All (IsClaimOf names) (flat_map (claims_of names) (right_of_cell names rule reading cell))
right_claims-game names rule reading cell chosen h =
    All-flat_map (IsClaimOf names) (IsWantedOf names) (claims_of names) (right_of_cell names rule reading cell)
    (claims_of-game names)
    (All-mapped (IsWantedOf names) (IsItemOf names) (wanted_right names rule cell reading) cell.right (λ item.
    wanted_right-game names rule cell reading item chosen) h.right)

-- a cell of a rule under such a reading
pub cell_meaning-keeps : (names : Names) (rule : SourceRule) (reading : Reading) (cell : CellPair) →
    IsReadingOf names reading → IsPairOf names cell →
    KeepsCells names (cell_meaning names rule reading cell)
cell_meaning-keeps names rule reading cell chosen h slots =
    let right : List Wanted = right_of_cell names rule reading cell in
    rewritten-game names (flat_map (claims_of names) (left_of_cell names rule reading cell))
    (flat_map (claims_of names) right) (flat_map denied right) slots
    (right_claims-game names rule reading cell chosen h)

-- a reading of a game's rule
pub reading_meaning-keeps : (names : Names) (rule : SourceRule) (reading : Reading) → IsRuleOf names rule →
    IsReadingOf names reading → Keeps names (reading_meaning names rule reading)
reading_meaning-keeps names rule reading all chosen =
    let meant : CellPair → CellMeaning = cell_meaning names rule reading in
    All-mapped (All (All (KeepsCells names))) (All (All (IsPairOf names))) (map (map meant)) rule.rows
    (λ row. All-mapped (All (KeepsCells names)) (All (IsPairOf names)) (map meant) row
    (λ part. All-mapped (KeepsCells names) (IsPairOf names) meant part (λ cell.
    cell_meaning-keeps names rule reading cell chosen))) all

-- what a game's rule means
pub meanings-keep : (names : Names) (rule : SourceRule) → IsRuleOf names rule → All (Keeps names) (meanings names rule)
meanings-keep names rule all =
    All-mapped (Keeps names) (IsReadingOf names) (reading_meaning names rule) _ (λ reading.
    reading_meaning-keeps names rule reading all)
    (All-filter (is_possible names rule) (IsReadingOf names) (readings names rule) (readings-game names rule all))
