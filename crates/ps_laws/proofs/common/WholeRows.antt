-- Rows stay whole where their cells change, and where they are turned round.
use Rattle.std.proofs.Common.{◌≡◌, ℕ, ◌+◌, ◌<◌, ◌≤◌, List, [], ◌∷◌, length, map, reverse, sym, subst, ◌∙◌}
use Rattle.std.specs.Prelude.{All}
use Rattle.std.proofs.lemmas.List.{length-map, length-reverse, reverse-append}
use Rattle.std.proofs.lemmas.List.Elements.{All-nil, All-cons, All-head, All-tail, All-append}
use Rattle.ps_model.specs.declared.limits.TheConstants.{ELLIPSIS_LIMIT}
use Rattle.ps_model.specs.meaning.TurnedRound.{row_turned}
use Rattle.ps_laws.specs.WholeRows.{HasCells, IsWholeRow}
use Rattle.ps_laws.proofs.common.Everywhere.{All-mapped}

-- what all have, all have from the other end
pub All-reverse : {X : Type 0} (P : X → Type 0) (xs : List X) → All P xs → All P (reverse xs)
All-reverse P [] all = All-nil P
All-reverse P (x ∷ xs) all =
    subst (λ (back : List _). All P back) (sym (reverse-append (x ∷ []) xs))
    (All-append P (reverse xs) (x ∷ []) (All-reverse P xs (All-tail P x xs all))
    (All-cons P x [] (All-head P x xs all) (All-nil P)))

-- rows of as many parts, each of which has cells
whole-as : {A B : Type 0} (row : List (List A)) (other : List (List B)) → length other ≡ length row →
    All HasCells other → IsWholeRow row → IsWholeRow other
whole-as row other e cells whole = record {
  some = subst (λ (n : ℕ). 0 < n) (sym e) whole.some;
  few = subst (λ (n : ℕ). n ≤ ELLIPSIS_LIMIT + 1) (sym e) whole.few;
  cells = cells;
}

-- a row of other cells
pub whole-mapped : {A B : Type 0} (f : A → B) (row : List (List A)) → IsWholeRow row → IsWholeRow (map (map f) row)
whole-mapped f row whole =
    whole-as row (map (map f) row) (length-map row (map f))
    (All-mapped HasCells HasCells (map f) row (λ part has.
    subst (λ (n : ℕ). 0 < n) (sym (length-map part f)) has) whole.cells) whole

-- a row turned round
pub whole-turned : {A : Type 0} (row : List (List A)) → IsWholeRow row → IsWholeRow (row_turned row)
whole-turned row whole =
    whole-as row (row_turned row) (length-reverse (map reverse row) ∙ length-map row reverse)
    (All-reverse HasCells (map reverse row)
    (All-mapped HasCells HasCells reverse row (λ part has.
    subst (λ (n : ℕ). 0 < n) (sym (length-reverse part)) has) whole.cells)) whole
