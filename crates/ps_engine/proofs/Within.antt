-- Numbers that are within a list: few facts, so that none is sought among all that is known where they are used.
use Rattle.std.proofs.Common.{◌≡◌, ◌∙◌, ℕ, ◌<◌, ◌≤◌, true, Option, Some, None, List, [], ◌∷◌, length, get_or, sym, ap}
use Rattle.std.proofs.Common.{arith, true≢false}
use Rattle.std.specs.Prelude.{slice_get}
use Rattle.std.proofs.lemmas.Option.{none-some, slice_get_within}
use Rattle.ps_program.specs.declared.cells.CompiledCell.{CompiledCell}
use Rattle.ps_program.specs.declared.rows.CompiledRow.{CompiledRow}
use Rattle.ps_program.specs.declared.writers.Writer.{Writer}
use Rattle.ps_program.specs.Writers.{rows_writer}
use Rattle.ps_engine.specs.OnePart.{one_part, rows_parts}
use Rattle.ps_engine.proofs.Waking.{found_at}

-- a row's room, where there are enough for all rows
pub room_there : (n rows scratch now : ℕ) → n < rows → rows ≤ scratch → now ≡ scratch → n < now
room_there n rows scratch now low enough same = omega arith

-- a list has a place whose element is that of another one
pub left_there : {X : Type 0} (xs ys : List X) (n : ℕ) → n < length xs → slice_get ys n ≡ slice_get xs n → n < length ys
left_there xs ys n low same = let at = found_at xs n low in slice_get_within ys n at.0 (same ∙ at.1)

-- rows of one part, and rows that have a writer, are some
pub part_room : (rows : List CompiledRow) (part : List CompiledCell) (scratch : ℕ) → rows_parts rows ≡ one_part part →
    length rows ≤ scratch → 0 < scratch
part_room [] part scratch only enough = absurd (cc)
part_room (row ∷ rows) part scratch only enough = omega (arith, enough)

pub writer_room : (rows : List CompiledRow) (known : Option Writer) (writer : Writer) (scratch : ℕ) →
    rows_writer rows known ≡ true → known ≡ Some writer → length rows ≤ scratch → 0 < scratch
writer_room [] (Some other) writer scratch alone is enough = absurd (true≢false (sym alone))
writer_room [] None writer scratch alone is enough = absurd (none-some writer is)
writer_room (row ∷ rows) known writer scratch alone is enough = omega (arith, enough)

-- one element, and some
pub only_of : {X : Type 0} (xs : List X) (x : X) → length xs ≡ 1 → x ≡ get_or xs 0 x → xs ≡ x ∷ []
only_of [] x one is = absurd (omega (arith, one))
only_of (y ∷ []) x one is = ap (λ (z : _). z ∷ []) (sym is)
only_of (y ∷ z ∷ xs) x one is = absurd (omega (arith, one))

pub none_of_some : {X : Type 0} (xs : List X) (x : X) (rest : List X) → xs ≡ x ∷ rest → xs ≡ [] → ⊥
none_of_some [] x rest some none = absurd (cc)
none_of_some (y ∷ xs) x rest some none = absurd (cc)
