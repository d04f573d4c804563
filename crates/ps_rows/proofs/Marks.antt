-- Several planes with one cell changed.
use Rattle.std.proofs.Common.{◌≡◌, ◌≢◌, ℕ, zero, suc, ◌+◌, ◌*◌, ◌/◌, ◌%◌, ◌<◌, ◌≤◌, inl, inr, Bool, true, false, Option}
use Rattle.std.proofs.Common.{List, [], ◌∷◌, length, get_or, refl, sym, ◌∙◌, arith}
use Rattle.std.specs.Prelude.{nat_eq}
use Rattle.std.specs.List.{list_any}
use Rattle.std.proofs.lemmas.Bool.{cases_Bool, eqb-true, eq-eqb, or_cases, or_parts, or_left, or_right, false≢true}
use Rattle.std.proofs.lemmas.Nat.{mod_below}
use Rattle.ps_model.specs.board.Movement.{is_number}
use Rattle.ps_rows.specs.Planes.{HavePlanes, has_cell, with_cell, with_cell_in}
use Rattle.ps_rows.proofs.CellsChanged.{has_cell-with_other, has_cell-with_same, length-with_cell}
use Rattle.ps_model.specs.declared.limits.TheConstants.{SIDE_LIMIT}

-- a cell's place in a plane
pub place_within : (h plane cell long : ℕ) → 0 < h → (plane + 1) * h ≤ long → plane * h + cell % h < long
place_within h plane cell long some enough =
    let row : cell % h < h = mod_below cell h some in
    let whole : (plane + 1) * h ≡ plane * h + h = omega arith in
    omega arith

-- a list has each number of its own
pub listed_at : (planes : List ℕ) (k d : ℕ) → k < length planes → list_any (nat_eq (get_or planes k d)) planes ≡ true
listed_at [] k d h = absurd (omega arith)
listed_at (p ∷ ps) zero d h = or_left (nat_eq p p) (list_any (nat_eq p) ps) (eq-eqb p p refl)
listed_at (p ∷ ps) (suc k) d h = or_right (nat_eq (get_or ps k d) p) (list_any (nat_eq (get_or ps k d)) ps)
    (listed_at ps k d (omega arith))

-- the planes behind the first
pub behind_first : (h : ℕ) (words : List (List Bool)) (cell p : ℕ) (ps : List ℕ) (on : Bool) →
    HavePlanes h words (p ∷ ps) → HavePlanes h (with_cell h words cell p on) ps
behind_first h words cell p ps on have = λ q a.
    rw length-with_cell (have q (or_right (nat_eq q p) (list_any (nat_eq q) ps) a))

pub first_of : (h : ℕ) (words : List (List Bool)) (p : ℕ) (ps : List ℕ) → HavePlanes h words (p ∷ ps) →
    (p + 1) * h ≤ length words
first_of h words p ps have = have p (or_left (nat_eq p p) (list_any (nat_eq p) ps) (eq-eqb p p refl))

pub length-with_cell_in : (h cell : ℕ) (chosen : Option ℕ) (words : List (List Bool)) (planes : List ℕ) →
    length (with_cell_in h cell chosen words planes) ≡ length words
unfolding with_cell_in
length-with_cell_in h cell chosen words [] = refl
length-with_cell_in h cell chosen words (p ∷ ps) =
    length-with_cell_in h cell chosen (with_cell h words cell p (is_number chosen p)) ps
    ∙ length-with_cell h words cell p (is_number chosen p)

-- each cell but that one, and each plane that is not listed
pub has_cell-in_elsewhere : (h cell : ℕ) (chosen : Option ℕ) (words : List (List Bool)) (planes : List ℕ) (c p : ℕ) →
    0 < h → c / h < SIDE_LIMIT → HavePlanes h words planes →
    (c ≡ cell → list_any (nat_eq p) planes ≡ false) →
    has_cell h (with_cell_in h cell chosen words planes) c p ≡ has_cell h words c p
unfolding with_cell_in
has_cell-in_elsewhere h cell chosen words [] c p some under have apart = refl
has_cell-in_elsewhere h cell chosen words (q ∷ qs) c p some under have apart =
    let on : Bool = is_number chosen q in
    let other : c ≡ cell → p ≢ q = λ e f. false≢true
    (sym ((or_parts (nat_eq p q) (list_any (nat_eq p) qs) (apart e)).0) ∙ eq-eqb p q f) in
    has_cell-in_elsewhere h cell chosen (with_cell h words cell q on) qs c p some under
    (behind_first h words cell q qs on have)
    (λ e. (or_parts (nat_eq p q) (list_any (nat_eq p) qs) (apart e)).1)
    ∙ has_cell-with_other h words cell q on c p some under
    (place_within h q cell (length words) some (first_of h words q qs have)) other

pub first_listed : (p q : ℕ) (qs : List ℕ) → list_any (nat_eq p) (q ∷ qs) ≡ true → list_any (nat_eq p) qs ≡ false →
    p ≡ q
first_listed p q qs listed none = elim (or_cases (nat_eq p q) (list_any (nat_eq p) qs) listed) [
  | inl same ↦ eqb-true p q same
  | inr among ↦ absurd (false≢true (sym none ∙ among))
]

-- that cell, in the planes that are listed
pub has_cell-in_there : (h cell : ℕ) (chosen : Option ℕ) (words : List (List Bool)) (planes : List ℕ) (p : ℕ) → 0 < h →
    cell / h < SIDE_LIMIT → HavePlanes h words planes →
    list_any (nat_eq p) planes ≡ true → has_cell h (with_cell_in h cell chosen words planes) cell p ≡ is_number chosen p
unfolding with_cell_in
has_cell-in_there h cell chosen words [] p some low have listed = absurd (false≢true listed)
has_cell-in_there h cell chosen words (q ∷ qs) p some low have listed =
    let on : Bool = is_number chosen q in
    let behind = behind_first h words cell q qs on have in
    elim (cases_Bool (list_any (nat_eq p) qs)) [
      | inl among ↦ has_cell-in_there h cell chosen (with_cell h words cell q on) qs p some low behind among
      | inr none ↦
          let e : p ≡ q = first_listed p q qs listed none in
          has_cell-in_elsewhere h cell chosen (with_cell h words cell q on) qs cell p some low behind (λ same. none)
          ∙ rw e (has_cell-with_same h words cell q on low
          (place_within h q cell (length words) some (first_of h words q qs have)))
    ]
