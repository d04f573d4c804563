use Rattle.std.proofs.Common.{◌≡◌}
use Rattle.ps_model.specs.board.Attempts.{all_fit}
use Rattle.ps_places.specs.Ways.{from_first}
use Rattle.ps_engine.specs.Choices.{behind_from, choices_of}
use Rattle.ps_engine.specs.Choosing.{AreLeft, HaveStartsOf, rows_meaning}
use Rattle.ps_engine.proofs.walking.advance.Given as goal

-- no row passed by has a next place
abbrev pub invariant-loop-number : goal.invariant-loop-number
invariant-loop-number g l =
    let fits = all_fit (g.B.Board.grid l.board) (rows_meaning (g.B.Board.table l.board) l.rows) in
    let choices = choices_of (g.B.Board.grid l.board).height l.rows l.fn.scratch in
    record {
      passed : from_first fits (behind_from l.first choices) ≡ from_first fits (behind_from l.number choices);
      same : HaveStartsOf l.fn.scratch l.scratch;
      left : AreLeft l.fn.scratch l.scratch l.number;
    }
