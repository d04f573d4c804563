use Rattle.std.proofs.Common.{Bool, List}
use Rattle.ps_program.specs.declared.rows.Axis.TheVariants.{Right}
use Rattle.ps_places.specs.FoundStarts.{AreLinesFound}
use Rattle.ps_places.proofs.starts.lines_of_masks.Given as goal

-- on each line that was left out a part begins nowhere
abbrev pub invariant-loop-number : goal.invariant-loop-number
invariant-loop-number g l = (starts : List (List Bool)) →
    AreLinesFound (g.B.Board.grid l.board) (g.B.Board.table l.board) Right l.parts starts l.left 0
