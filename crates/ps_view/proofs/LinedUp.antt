-- Characters in cells.
use Rattle.std.proofs.Common.{◌≡◌, ◌∙◌, ℕ, ◌-◌, ◌≤◌, List, [], ◌∷◌, ◌++◌, max, replicate, refl, ap, arith}
use Rattle.std.specs.Prelude.{All}
use Rattle.std.proofs.lemmas.List.Elements.{All-append, All-cons, All-nil, All-replicate}
use Rattle.ps_view.specs.Corners.{in_cell, lined_up}
use Rattle.ps_view.specs.HarmlessTexts.{columns_of}
use Rattle.ps_view.proofs.Such.{first_of, others_of}

-- in cells of one column characters stand as they are
pub lined_up_alone : (width : ℕ) (characters : List ℕ) → width ≤ 1 → lined_up width characters ≡ characters
lined_up_alone width [] narrow = refl
lined_up_alone width (c ∷ characters) narrow =
    let none : width - max 1 (columns_of c) ≡ 0 = omega (arith, narrow) in
    ap (λ (n : ℕ). (c ∷ replicate n 32) ++ lined_up width characters) none
    ∙ ap (λ (others : List ℕ). c ∷ others) (lined_up_alone width characters narrow)

-- cells of characters that are all such have such characters alone, if blanks are
pub lined_up_is_such : (P : ℕ → Type 0) (width : ℕ) (characters : List ℕ) → P 32 → All P characters →
    All P (lined_up width characters)
lined_up_is_such P width [] blank all = All-nil P
lined_up_is_such P width (c ∷ characters) blank all =
    All-append P (in_cell width c) (lined_up width characters)
    (All-cons P c (replicate (width - max 1 (columns_of c)) 32) (first_of P c characters all)
    (All-replicate P (width - max 1 (columns_of c)) 32 blank))
    (lined_up_is_such P width characters blank (others_of P c characters all))
