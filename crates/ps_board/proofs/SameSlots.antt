-- Slots compared as one flat list, or cell by cell.
use Rattle.std.proofs.Common.{◌≡◌, ℕ, ◌+◌, ◌*◌, ◌&&◌, Bool, List, [], ◌∷◌, length, length-drop, take, drop, suc, zero}
use Rattle.std.proofs.Common.{refl, sym, ap, ◌∙◌, arith}
use Rattle.std.specs.Simd.{first_chunks}
use Rattle.std.proofs.Math.Bool.{and_assoc}
use Rattle.ps_model.specs.declared.pieces.Slot.{Slot}
use Rattle.ps_model.specs.board.Attempts.{same_cell, same_slot}
use Rattle.ps_model.specs.board.Turns.{same_cells}

-- slots in two parts
same_cell-parts : (n : ℕ) (xs ys : List Slot) → length xs ≡ length ys →
    same_cell xs ys ≡ (same_cell (take n xs) (take n ys) && same_cell (drop n xs) (drop n ys))
same_cell-parts zero xs ys e = refl
same_cell-parts (suc n) [] [] e = refl
same_cell-parts (suc n) [] (y ∷ ys) e = absurd (omega arith)
same_cell-parts (suc n) (x ∷ xs) [] e = absurd (omega arith)
same_cell-parts (suc n) (x ∷ xs) (y ∷ ys) e =
    ap (λ (b : Bool). same_slot x y && b) (same_cell-parts n xs ys (omega arith))
    ∙ sym (and_assoc (same_slot x y) (same_cell (take n xs) (take n ys)) (same_cell (drop n xs) (drop n ys)))

-- slots are the same where their cells are
pub same_cells-chunks : (n k : ℕ) (xs ys : List Slot) → length xs ≡ k * n → length ys ≡ k * n →
    same_cell xs ys ≡ same_cells (first_chunks n k xs) (first_chunks n k ys)
same_cells-chunks n zero [] [] d e = refl
same_cells-chunks n zero [] (y ∷ ys) d e = absurd (omega arith)
same_cells-chunks n zero (x ∷ xs) ys d e = absurd (omega arith)
same_cells-chunks n (suc k) xs ys d e =
    let p : suc k * n ≡ n + k * n = omega arith in
    same_cell-parts n xs ys (omega arith)
    ∙ ap (λ (b : Bool). same_cell (take n xs) (take n ys) && b)
    (same_cells-chunks n k (drop n xs) (drop n ys) (rw length-drop (omega arith)) (rw length-drop (omega arith)))

-- on two boards of the same size
pub same_boards : (w h l w' h' l' : ℕ) (xs ys : List Slot) → w' ≡ w → h' ≡ h → l' ≡ l → length xs ≡ w * h * l →
    length ys ≡ w' * h' * l' →
    same_cell xs ys ≡ same_cells (first_chunks l (w * h) xs) (first_chunks l' (w' * h') ys)
same_boards w h l w' h' l' xs ys a b c long many = let as_many : length ys ≡ w * h * l = rw (a, b, c) at many in
    rw (a, b, c) (same_cells-chunks l (w * h) xs ys long as_many)
