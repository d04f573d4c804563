use Rattle.ps_program.specs.declared.rows.Axis.TheVariants.{Down}
use Rattle.ps_places.specs.Candidates.{BeginsOnlyOn}
use Rattle.ps_places.proofs.candidates.rows_down.Given as goal

-- the part doesn't begin on another row of the board
abbrev pub invariant-loop-number : goal.invariant-loop-number
invariant-loop-number g l = BeginsOnlyOn (g.B.Board.grid l.board) (g.B.Board.table l.board) Down l.part l.rows
