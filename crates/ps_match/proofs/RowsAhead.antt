-- Columns of a row for which the words of a set have no room: none of them is a column of the board.
use Rattle.std.proofs.Common.{◌≡◌, ◌∙◌, ℕ, ◌*◌, ◌/◌, ◌%◌, ◌<◌, ◌≤◌, ◌&&◌, Bool, true, List, ap, arith}
use Rattle.std.specs.Prelude.{nat_eq, nat_lt}
use Rattle.std.proofs.lemmas.Bool.Decides.{nat_tests}
use Rattle.std.proofs.lemmas.Nat.{div_below}
use Rattle.ps_model.specs.declared.limits.TheConstants.{SIDE_LIMIT}
use Rattle.ps_model.specs.declared.pieces.Slot.{Slot}
use Rattle.ps_model.specs.board.Grid.{Grid, IsGrid}
use Rattle.ps_board.specs.ColumnSets.{both_columns, column_at, columns_below}
use Rattle.ps_board.proofs.ColumnLaws.{column_at-where}
use Rattle.ps_match.specs.Together.{is_on_row, rewritten_where}
use Rattle.ps_match.proofs.Chosen.{where-agree}

in_room : (columns : List Bool) (limit x : ℕ) → x < SIDE_LIMIT → x < limit →
    column_at (both_columns (columns_below limit) columns) x ≡ column_at columns x
in_room columns limit x low near =
    let yes : nat_lt x limit ≡ true = grind (arith, nat_tests, near) in
    column_at-where (λ y. column_at (columns_below limit) y && column_at columns y) x low
    ∙ ap (λ (b : Bool). b && column_at columns x) (column_at-where (λ y. nat_lt y limit) x low ∙ yes)

pub row-in-room : (g : Grid) (becomes : List Slot → List Slot) (row limit : ℕ) (columns moved : List Bool) → IsGrid g →
    g.width ≤ limit → moved ≡ both_columns (columns_below limit) columns →
    rewritten_where g becomes (is_on_row g.height row moved) ≡ rewritten_where g becomes
    (is_on_row g.height row columns)
row-in-room g becomes row limit columns moved grid room is =
    where-agree g becomes (is_on_row g.height row moved) (is_on_row g.height row columns)
    (λ n low.
    let inside : n < g.width * g.height = rw (← grid.cells) low in
    let across : n / g.height < g.width = div_below n g.height g.width grid.some_row inside in
    ap (λ (b : Bool). nat_eq (n % g.height) row && b)
    (ap (λ (cs : List Bool). column_at cs (n / g.height)) is
    ∙ in_room columns limit (n / g.height) (omega (arith, across, grid.columns)) (omega (arith, across, room))))
