-- The ways that are found are spaced.
use Rattle.std.proofs.Common.{◌≡◌, ℕ, ◌+◌, ◌≤◌, Bool, true, List, [], ◌∷◌, length}
use Rattle.std.proofs.Common.{arith}
use Rattle.std.specs.Prelude.{nat_le}
use Rattle.std.proofs.lemmas.Bool.Decides.{nat_tests}
use Rattle.ps_program.specs.declared.cells.CompiledCell.{CompiledCell}
use Rattle.ps_board.specs.ColumnSets.{set_columns}
use Rattle.ps_places.specs.RowPlaces.{part_sizes}
use Rattle.ps_places.specs.Ways.{from_first, positions_from}
use Rattle.ps_places.specs.Spaced.{IsSpaced}
use Rattle.ps_places.proofs.FirstOf.{first-passes}

-- the first position found isn't before the one from which it is sought
pub far-enough : (kind : ℕ → Bool) (set : List Bool) (from p : ℕ) (ps : List ℕ) →
    from_first kind (positions_from set from) ≡ p ∷ ps → from ≤ p
far-enough kind set from p ps found =
    let passes : nat_le from p ≡ true = first-passes kind (λ q. nat_le from q) (set_columns set) p ps found in
    grind (arith, nat_tests, passes)

-- a way that begins later is spaced from before
pub spaced-before : (sizes : List ℕ) (from later : ℕ) (way : List ℕ) → from ≤ later → IsSpaced sizes later way →
    IsSpaced sizes from way
spaced-before [] from later way less spaced = tt
spaced-before (size ∷ sizes) from later [] less spaced = tt
spaced-before (size ∷ sizes) from later (p ∷ way) less spaced =
    let far : later ≤ p = spaced.0 in (omega (arith, less, far), spaced.1)

-- the first part, and the others
pub spaced-first : (parts : List (List CompiledCell)) (cells part : List CompiledCell)
    (others : List (List CompiledCell)) (from p q : ℕ) (way : List ℕ) → parts ≡ part ∷ others → cells ≡ part → q ≡ p →
    from ≤ p → IsSpaced (part_sizes others) (q + length cells) way → IsSpaced (part_sizes parts) from (p ∷ way)
spaced-first parts cells part others from p q way e same at far rest = rw (e, ← same, ← at) (rw at far, rest)

-- the next way, where the first part stays, and where it goes on
pub spaced-others : (parts : List (List CompiledCell)) (part : List CompiledCell) (others : List (List CompiledCell))
    (old : List ℕ) (p : ℕ) (way next : List ℕ) (least : ℕ) → parts ≡ part ∷ others → old ≡ p ∷ way →
    IsSpaced (part_sizes parts) least old →
    ((from : ℕ) → IsSpaced (part_sizes others) from way → IsSpaced (part_sizes others) from next) →
    IsSpaced (part_sizes parts) least (p ∷ next)
spaced-others parts part others old p way next least e was spaced goes =
    let split : IsSpaced (part_sizes (part ∷ others)) least (p ∷ way) = rw (e, was) at spaced in
    rw e (split.0, goes (p + length part) split.1)

pub spaced-later : (parts : List (List CompiledCell)) (part : List CompiledCell) (others : List (List CompiledCell))
    (old : List ℕ) (p : ℕ) (way : List ℕ) (least later : ℕ) (next : List ℕ) → parts ≡ part ∷ others → old ≡ p ∷ way →
    p ≤ later → IsSpaced (part_sizes parts) least old → IsSpaced (part_sizes parts) later next →
    IsSpaced (part_sizes parts) least next
spaced-later parts part others old p way least later next e was far spaced found =
    let split : IsSpaced (part_sizes (part ∷ others)) least (p ∷ way) = rw (e, was) at spaced in
    let low : least ≤ p = split.0 in
    spaced-before (part_sizes parts) least later next (omega (arith, low, far)) found
