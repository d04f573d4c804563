use Rattle.std.proofs.Common.{◌≡◌}
use Rattle.ps_model.specs.board.Attempts.{Rewritten, rewritten_rows}
use Rattle.ps_engine.specs.Choices.{chosen, choices_of}
use Rattle.ps_engine.specs.Choosing.{rows_meaning}
use Rattle.ps_engine.proofs.Rewriting.{rewritten_from}
use Rattle.ps_match.specs.FixedParts.{fixed_part}
use Rattle.ps_engine.proofs.walking.rewrite_rows.Given as goal

-- the rows passed by are rewritten
abbrev pub invariant-loop-number : goal.invariant-loop-number
invariant-loop-number g l =
    let before : Rewritten = record { grid = g.B.Board.grid l.fn.board; changed = l.fn.changed } in
    let now : Rewritten = record { grid = g.B.Board.grid l.board; changed = l.any } in
    let table = g.B.Board.table l.fn.board in
    let height = (g.B.Board.grid l.fn.board).height in
    record {
      rewritten : rewritten_from table height l.rows l.scratch l.number now ≡ rewritten_rows before
          (rows_meaning table l.rows) (chosen (choices_of height l.rows l.scratch));
      fixed : fixed_part g.B.Board l.board ≡ fixed_part g.B.Board l.fn.board;
    }
