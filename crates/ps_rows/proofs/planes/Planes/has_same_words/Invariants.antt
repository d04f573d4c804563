use Rattle.std.proofs.Common.{◌≡◌, ◌+◌, ◌*◌, ◌<◌, ℕ, []}
use Rattle.ps_rows.specs.Planes.{row_of}
use Rattle.ps_board.specs.ColumnSets.{set_columns}
use Rattle.ps_rows.proofs.planes.Planes.has_same_words.Given as goal

-- the rows passed by are the same, if no bit differs so far
abbrev pub invariant-loop-row : goal.invariant-loop-row
invariant-loop-row g l =
    set_columns l.unlike ≡ [] → (row : ℕ) → row < l.row →
    row_of l.self.words.items (l.plane * l.self.height + row) ≡ row_of l.other.words.items
    (l.plane * l.self.height + row)
