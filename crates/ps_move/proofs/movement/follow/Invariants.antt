use Rattle.std.proofs.Common.{◌≡◌, ◌*◌, ◌<◌, Some}
use Rattle.ps_model.specs.declared.pieces.Slot.TheVariants.{Bare}
use Rattle.ps_model.specs.board.Grid.{Grid, slot_at}
use Rattle.ps_move.specs.Visits.{going_count}
use Rattle.ps_move.specs.Parts.{IsChain}
use Rattle.ps_move.proofs.movement.follow.Given as goal

-- objects went up to the hole, which is still waited for
abbrev pub invariant-loop-from : goal.invariant-loop-from
invariant-loop-from g l =
    let now : Grid = g.B.Board.grid l.board in
    record {
      chain : IsChain l.passes (g.B.Board.grid l.fn.board) now l.fn.layer.0 l.fn.left (Some l.hole);
      place : l.hole < now.width * now.height;
      bare : slot_at now l.hole l.fn.layer.0 ≡ Bare;
      table : g.B.Board.table l.board ≡ g.B.Board.table l.fn.board;
      origin : g.B.Board.origin l.board ≡ g.B.Board.origin l.fn.board;
    }

abbrev pub decreases-loop-from : goal.decreases-loop-from
decreases-loop-from g l = going_count (g.B.Board.grid l.board)
