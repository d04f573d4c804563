-- Planes of which the index has nothing marked.
use Rattle.std.proofs.Common.{◌≡◌, ◌∙◌, ℕ, inl, inr, Bool, false, List, length, sym, arith}
use Rattle.std.specs.Prelude.{nat_lt}
use Rattle.std.proofs.lemmas.Bool.{cases_lt, false≢true, lt-ltb}
use Rattle.std.proofs.lemmas.List.{get_or_past}
use Rattle.ps_board.specs.ColumnSets.{no_columns}
use Rattle.ps_rows.specs.Planes.{row_of}

-- a plane beyond the index has no row there
pub row_beyond : (index : List (List Bool)) (count plane : ℕ) → count ≡ length index → nat_lt plane count ≡ false →
    row_of index plane ≡ no_columns
row_beyond index count plane all past = elim (cases_lt plane count) [
  | inl low ↦ absurd (false≢true (sym past ∙ lt-ltb plane count low))
  | inr high ↦ get_or_past index plane no_columns (omega (arith, high, all))
]
