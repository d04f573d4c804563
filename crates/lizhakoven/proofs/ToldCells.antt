-- The numbers of what stands in cells, one more after the other.
use Rattle.std.proofs.Common.{◌≡◌, ◌∙◌, ℕ, ◌+◌, ◌<◌, List, [], ◌∷◌, ◌++◌, length, map, take, get_or, refl, sym, ap}
use Rattle.std.proofs.Common.{arith}
use Rattle.std.specs.List.{concat}
use Rattle.std.proofs.lemmas.Grind.{common_steps}
use Rattle.std.proofs.lemmas.List.{map-append}
use Rattle.ps_model.specs.declared.pieces.Slot.{Slot}
use Rattle.ps_model.specs.declared.pieces.Slot.TheVariants.{Bare}
use Rattle.lizhakoven.specs.Places.{slot_number}

-- the number of one more slot
pub numbers_more : (slots : List Slot) (layer : ℕ) → layer < length slots →
    map slot_number (take (layer + 1) slots) ≡ map slot_number (take layer slots)
    ++ slot_number (get_or slots layer Bare) ∷ []
numbers_more slots layer within =
    let more : take (layer + 1) slots ≡ take layer slots ++ get_or slots layer Bare ∷ [] =
    grind (arith, common_steps) in
    rw (more, map-append slot_number (take layer slots) (get_or slots layer Bare ∷ [])) refl

abbrev numbers_in : List Slot → List ℕ
numbers_in slots = map slot_number slots

-- lists of numbers, and one more
together : (lists : List (List ℕ)) (more : List ℕ) → concat (lists ++ more ∷ []) ≡ concat lists ++ more
together [] more = append_nil_at more where
  append_nil_at : (xs : List ℕ) → xs ++ [] ≡ xs
  append_nil_at [] = refl
  append_nil_at (x ∷ xs) = ap (λ (rest : List ℕ). x ∷ rest) (append_nil_at xs)
together (list ∷ lists) more =
    ap (λ (rest : List ℕ). list ++ rest) (together lists more) ∙ sym (assoc list (concat lists) more) where
      assoc : (a b c : List ℕ) → (a ++ b) ++ c ≡ a ++ (b ++ c)
      assoc [] b c = refl
      assoc (x ∷ a) b c = ap (λ (rest : List ℕ). x ∷ rest) (assoc a b c)

-- the numbers of one more cell
pub cells_more : (cells : List (List Slot)) (cell : ℕ) → cell < length cells →
    concat (map (λ slots. map slot_number slots) (take (cell + 1) cells))
    ≡ concat (map (λ slots. map slot_number slots) (take cell cells)) ++ map slot_number (get_or cells cell [])
cells_more cells cell within =
    let more : take (cell + 1) cells ≡ take cell cells ++ get_or cells cell [] ∷ [] = grind (arith, common_steps) in
    ap (λ (front : List (List Slot)). concat (map numbers_in front)) more
    ∙ ap (λ (lists : List (List ℕ)). concat lists) (map-append numbers_in (take cell cells) (get_or cells cell [] ∷ []))
    ∙ together (map numbers_in (take cell cells)) (numbers_in (get_or cells cell []))
