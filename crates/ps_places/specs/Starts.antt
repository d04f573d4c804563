-- Where parts of a row fit on a board, as sets of positions on its lines.
use Rattle.std.specs.Prelude.{◌≡◌, ℕ, ◌+◌, ◌<◌, nat_le, nat_lt, Bool, true, ◌&&◌, Option, List, length}
use Rattle.ps_model.specs.declared.limits.TheConstants.{SIDE_LIMIT}
use Rattle.ps_model.specs.board.Grid.{Grid}
use Rattle.ps_board.specs.ColumnSets.{column_at}
use Rattle.ps_program.specs.declared.cells.CompiledCell.{CompiledCell}
use Rattle.ps_program.specs.declared.rows.Axis.TheVariants.{Down}
use Rattle.ps_program.specs.declared.rows.CompiledRow.{CompiledRow}
use Rattle.ps_places.specs.Scratch.{Scratch}
use Rattle.ps_places.specs.Lines.{line_count, part_fits}

-- the numbers of which something holds, as a set
pub record AreWhere (holds : ℕ → Bool) (columns : List Bool) : Type 0 where
  pub at : (x : ℕ) → x < SIDE_LIMIT → column_at columns x ≡ holds x

-- a part that goes down begins in a column on a row of the board, and has room there to the lower edge
abbrev pub begins_down : Grid → Option (List ℕ) → List CompiledCell → ℕ → ℕ → Bool
begins_down g table part row x =
    nat_lt x g.width && (nat_le (row + length part) g.height && part_fits g table Down x part row)

-- the lines of a row's room are lines of the board, and so is that of its place
pub record HasLinesOf (g : Grid) (row : CompiledRow) (scratch : Scratch) : Type 0 where
  pub at : (line : ℕ) → column_at scratch.lines line ≡ true → line < line_count row.axis g

abbrev pub IsOnLine : Grid → CompiledRow → Scratch → Type 0
IsOnLine g row scratch = scratch.line < line_count row.axis g

-- two scratch have the same lines with the same positions, whatever place is chosen
pub record HaveSameStarts (old new : Scratch) : Type 0 where
  pub lines : new.lines ≡ old.lines
  pub starts : new.starts ≡ old.starts
