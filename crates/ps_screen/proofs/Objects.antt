-- The objects of a cell, one layer after the other.
use Rattle.std.proofs.Common.{◌≡◌, ◌∙◌, ℕ, ◌+◌, ◌<◌, List, [], ◌∷◌, ◌++◌, Option, length, take, get_or, refl, sym, ap}
use Rattle.std.proofs.Common.{arith}
use Rattle.std.specs.Prelude.{option_to_list}
use Rattle.std.proofs.lemmas.Grind.{common_steps}
use Rattle.std.proofs.lemmas.List.Elements.{filter_map-append}
use Rattle.ps_model.specs.declared.pieces.ObjectId.{ObjectId}
use Rattle.ps_model.specs.declared.pieces.Slot.{Slot}
use Rattle.ps_model.specs.declared.pieces.Slot.TheVariants.{Bare, Holds}
use Rattle.ps_model.specs.board.Grid.{object_in}
use Rattle.ps_model.specs.session.Frames.{objects_in}

one_slot : (slot : Slot) → objects_in (slot ∷ []) ≡ option_to_list (object_in slot)
one_slot Bare = refl
one_slot (Holds object motion) = refl

-- the object of one more slot
pub objects_in-more : (slots : List Slot) (layer : ℕ) → layer < length slots →
    objects_in (take (layer + 1) slots) ≡ objects_in (take layer slots) ++ option_to_list
    (object_in (get_or slots layer Bare))
objects_in-more slots layer within =
    let more : take (layer + 1) slots ≡ take layer slots ++ get_or slots layer Bare ∷ [] =
    grind (arith, common_steps) in
    rw (
      more,
      filter_map-append object_in (take layer slots) (get_or slots layer Bare ∷ []),
      one_slot (get_or slots layer Bare),
    ) refl

-- all objects of a cell, where none is known to stand on a layer above one
pub objects_in-under : (slots : List Slot) (layer n : ℕ) (found : Option ObjectId) → layer ≡ n + 1 → n < length slots →
    objects_in slots ≡ objects_in (take layer slots) → found ≡ object_in (get_or slots n Bare) →
    objects_in slots ≡ objects_in (take n slots) ++ option_to_list found
objects_in-under slots layer n found next within under is =
    under ∙ ap (λ (k : ℕ). objects_in (take k slots)) next ∙ objects_in-more slots n within
    ∙ ap (λ (o : Option ObjectId). objects_in (take n slots) ++ option_to_list o) (sym is)
