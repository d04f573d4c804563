use Rattle.std.proofs.Common.{◌≡◌, ◌∷◌, true, false, fold, length}
use Rattle.ps_model.specs.board.Attempts.{Rewritten, all_fit, applied}
use Rattle.ps_engine.specs.Choices.{behind, choices_of, chosen}
use Rattle.ps_engine.specs.Choosing.{ArePlaced, HaveLinesOf, rows_meaning}
use Rattle.ps_match.specs.FixedParts.{fixed_part}
use Rattle.ps_engine.proofs.walking.walk.Given as goal

-- the combinations before the one that is chosen are applied
abbrev pub invariant-loop-sleeps : goal.invariant-loop-sleeps
invariant-loop-sleeps g l =
    let before : Rewritten = record { grid = g.B.Board.grid l.fn.board; changed = false } in
    let now : Rewritten = record { grid = g.B.Board.grid l.board; changed = l.changed } in
    let table = g.B.Board.table l.fn.board in
    let meant = rows_meaning table l.rows in
    let first = choices_of before.grid.height l.rows l.fn.scratch in
    let choices = choices_of now.grid.height l.rows l.scratch in
    record {
      long : length l.scratch ≡ length l.fn.scratch;
      lines : HaveLinesOf now.grid l.rows l.scratch;
      places : ArePlaced now.grid l.rows l.scratch;
      fit : all_fit now.grid meant (chosen choices) ≡ true;
      rewritten : fold (applied meant) now (chosen choices ∷ behind choices) ≡ fold (applied meant) before
          (chosen first ∷ behind first);
      fixed : fixed_part g.B.Board l.board ≡ fixed_part g.B.Board l.fn.board;
    }

-- the combinations that are left
abbrev pub decreases-loop-sleeps : goal.decreases-loop-sleeps
decreases-loop-sleeps g l = length (behind (choices_of (g.B.Board.grid l.board).height l.rows l.scratch))
