-- Steps of the loops over planes.
use Rattle.std.proofs.Common.{◌≡◌, ℕ, ◌+◌, ◌<◌, ◌≤◌, Bool, true, false, Option, Some, None, List, ◌∷◌, length, get_or}
use Rattle.std.proofs.Common.{drop, refl, sym, ap, ◌∙◌}
use Rattle.std.specs.Prelude.{find}
use Rattle.std.proofs.lemmas.List.{at_drop_more, at_drop_all}
use Rattle.ps_model.specs.board.Movement.{is_number}
use Rattle.ps_rows.specs.Planes.{with_cell, with_cell_in}

-- what is looked for stands here
pub found_here : (f : ℕ → Bool) (xs : List ℕ) (k : ℕ) → k < length xs → f (get_or xs k 0) ≡ true →
    find f (drop k xs) ≡ find f xs → Some (get_or xs k 0) ≡ find f xs
found_here f xs k h pass so =
    let here : find f (drop k xs) ≡ find f (get_or xs k 0 ∷ drop (k + 1) xs) = at_drop_more (find f) xs k 0 h in
    let this : find f (get_or xs k 0 ∷ drop (k + 1) xs) ≡ Some (get_or xs k 0) = rw pass refl in
    sym this ∙ sym here ∙ so

-- or it is looked for behind
pub found_behind : (f : ℕ → Bool) (xs : List ℕ) (k : ℕ) → k < length xs → f (get_or xs k 0) ≡ false →
    find f (drop k xs) ≡ find f xs → find f (drop (k + 1) xs) ≡ find f xs
found_behind f xs k h fail so =
    let here : find f (drop k xs) ≡ find f (get_or xs k 0 ∷ drop (k + 1) xs) = at_drop_more (find f) xs k 0 h in
    let this : find f (get_or xs k 0 ∷ drop (k + 1) xs) ≡ find f (drop (k + 1) xs) = rw fail refl in
    sym this ∙ sym here ∙ so

-- or nowhere
pub found_nowhere : (f : ℕ → Bool) (xs : List ℕ) (k : ℕ) → length xs ≤ k → find f (drop k xs) ≡ find f xs →
    None ≡ find f xs
found_nowhere f xs k h so = sym (at_drop_all (find f) xs k h) ∙ so

-- one plane more is changed
pub changed_more : (height cell : ℕ) (chosen : Option ℕ) (words more : List (List Bool)) (planes : List ℕ) (k : ℕ)
    (all : List (List Bool)) → k < length planes →
    more ≡ with_cell height words cell (get_or planes k 0) (is_number chosen (get_or planes k 0)) →
    with_cell_in height cell chosen words (drop k planes) ≡ all →
    with_cell_in height cell chosen more (drop (k + 1) planes) ≡ all
unfolding with_cell_in
changed_more height cell chosen words more planes k all h e so =
    let here : with_cell_in height cell chosen words (drop k planes) ≡ with_cell_in height cell chosen words
    (get_or planes k 0 ∷ drop (k + 1) planes) =
    at_drop_more (with_cell_in height cell chosen words) planes k 0 h in
    ap (λ (ws : List (List Bool)). with_cell_in height cell chosen ws (drop (k + 1) planes)) e ∙ sym here ∙ so

-- and then all
pub changed_all : (height cell : ℕ) (chosen : Option ℕ) (words : List (List Bool)) (planes : List ℕ) (k : ℕ)
    (all : List (List Bool)) → length planes ≤ k →
    with_cell_in height cell chosen words (drop k planes) ≡ all → words ≡ all
unfolding with_cell_in
changed_all height cell chosen words planes k all h so =
    sym (at_drop_all (with_cell_in height cell chosen words) planes k h) ∙ so
