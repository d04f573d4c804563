use Rattle.ps_program.specs.declared.rows.Axis.TheVariants.{Right}
use Rattle.ps_places.specs.Candidates.{BeginsOnlyOn}
use Rattle.ps_places.proofs.candidates.rows_across.Given as goal

-- the part doesn't begin on another row of the board
abbrev pub invariant-loop-number : goal.invariant-loop-number
invariant-loop-number g l = BeginsOnlyOn (g.B.Board.grid l.board) (g.B.Board.table l.board) Right l.part l.rows
