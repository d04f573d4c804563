-- Rows that are compiled of whole rows are whole.
use Rattle.std.proofs.Common.{◌≡◌, ℕ, ◌+◌, ◌<◌, ◌≤◌, Bool, true, false, List, [], ◌∷◌, length, map, reverse, get_or}
use Rattle.std.proofs.Common.{sym, subst, ap, ◌∙◌}
use Rattle.std.specs.Prelude.{All}
use Rattle.std.specs.List.{slice_split}
use Rattle.std.proofs.lemmas.List.{length-map, get_or-map}
use Rattle.std.proofs.lemmas.List.Elements.{All-nil, All-cons, All-head, All-tail}
use Rattle.std.proofs.lemmas.Simd.{map-map}
use Rattle.ps_model.specs.declared.limits.TheConstants.{ELLIPSIS_LIMIT}
use Rattle.ps_model.specs.rules.SourceRules.{RuleLine}
use Rattle.ps_laws.specs.WholeRows.{HasCells, IsWholeRow, IsWholeLine}
use Rattle.ps_laws.proofs.common.Everywhere.{All-slice_split}
use Rattle.ps_laws.proofs.common.WholeRows.{whole-mapped, whole-turned}
use Rattle.ps_compile.specs.TurnedRows.{row_from}

-- a row made from its other end, or as it is
pub whole-from : {A B : Type 0} (backwards : Bool) (f : A → B) (row : List (List A)) → IsWholeRow row →
    IsWholeRow (row_from backwards f row)
whole-from true f row whole =
    subst IsWholeRow (ap reverse (map-map reverse (map f) row))
    (whole-turned (map (map f) row) (whole-mapped f row whole))
whole-from false f row whole = whole-mapped f row whole

-- parts that are shown as parts with cells have cells
shown-cells : {A B : Type 0} (f : A → B) (row : List (List A)) → All HasCells (map (map f) row) → All HasCells row
shown-cells f [] all = All-nil HasCells
shown-cells f (part ∷ row) all =
    All-cons HasCells part row (subst (λ (n : ℕ).
    0 < n) (length-map part f) (All-head HasCells (map f part) (map (map f) row) all))
    (shown-cells f row (All-tail HasCells (map f part) (map (map f) row) all))

-- a row that is shown as a whole one is whole
pub whole-shown : {A B : Type 0} (f : A → B) (row : List (List A)) → IsWholeRow (map (map f) row) → IsWholeRow row
whole-shown f row whole = record {
  some = subst (λ (n : ℕ). 0 < n) (length-map row (map f)) whole.some;
  few = subst (λ (n : ℕ). n ≤ ELLIPSIS_LIMIT + 1) (length-map row (map f)) whole.few;
  cells = shown-cells f row whole.cells;
}

-- what all have that are shown, the one at a place has
pub shown-at : {A B : Type 0} (P : B → Type 0) (show : A → B) (xs : List A) (x : A) (i : ℕ) → All P (map show xs) →
    i < length xs → x ≡ get_or xs i x → P (show x)
shown-at P show xs x i all within is =
    subst P (get_or-map show xs i x (show x) within
    ∙ ap show (sym is)) (all i (show x) (subst (λ (n : ℕ). i < n) (sym (length-map xs show)) within))

-- so have the first, and the others
pub shown-first : {A B : Type 0} (P : B → Type 0) (show : A → B) (xs : List A) (x : A) (others : List A) →
    xs ≡ x ∷ others → All P (map show xs) → P (show x)
shown-first P show xs x others e all = All-head P (show x) (map show others)
    (subst (λ (list : List _). All P (map show list)) e all)

pub shown-others : {A B : Type 0} (P : B → Type 0) (show : A → B) (xs : List A) (x : A) (others : List A) →
    xs ≡ x ∷ others → All P (map show xs) → All P (map show others)
shown-others P show xs x others e all = All-tail P (show x) (map show others)
    (subst (λ (list : List _). All P (map show list)) e all)

-- the pieces of whole lines are whole
pub cut-whole : {A : Type 0} (cuts : RuleLine → Bool) (show : A →
    List RuleLine) (pieces : List A) (lines : List RuleLine) → map show pieces ≡ slice_split cuts lines →
    All IsWholeLine lines →
    All (All IsWholeLine) (map show pieces)
cut-whole cuts show pieces lines e whole = subst (λ (cut : List (List RuleLine)).
    All (All IsWholeLine) cut) (sym e) (All-slice_split IsWholeLine cuts lines whole)
