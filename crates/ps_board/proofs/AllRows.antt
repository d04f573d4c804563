-- All rows of a board, as a set of their numbers.
use Rattle.std.proofs.Common.{◌≡◌, ◌∙◌, ℕ, ◌<◌, ◌≤◌, Bool, false, List, sym, ap, arith}
use Rattle.std.specs.Prelude.{nat_lt}
use Rattle.std.proofs.lemmas.Bool.{false≢true, lt-ltb}
use Rattle.ps_model.specs.declared.limits.TheConstants.{SIDE_LIMIT}
use Rattle.ps_board.specs.ColumnSets.{column_at, columns_below}
use Rattle.ps_board.proofs.ColumnLaws.{column_at-where}

-- no row of the board is outside of them
pub none_outside : (height : ℕ) (rows : List Bool) → height ≤ SIDE_LIMIT → rows ≡ columns_below height → (row : ℕ) →
    row < height → column_at rows row ≡ false → ⊥
none_outside height rows low all row under none =
    let within : row < SIDE_LIMIT = omega (arith, under, low) in
    let here : column_at rows row ≡ nat_lt row height =
    ap (λ (set : List Bool). column_at set row) all ∙ column_at-where (λ x. nat_lt x height) row within in
    false≢true (sym none ∙ here ∙ lt-ltb row height under)
