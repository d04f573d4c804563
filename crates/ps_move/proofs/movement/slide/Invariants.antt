use Rattle.std.proofs.Common.{◌≡◌, ◌≤◌, ◌+◌, ℕ}
use Rattle.ps_move.specs.Parts.{ArePasses}
use Rattle.ps_move.proofs.movement.slide.Given as goal

-- the layers before some one have had their passes, of which those of one layer are counted
abbrev pub invariant-loop-layer : goal.invariant-loop-layer
invariant-loop-layer g l =
    (moved : ℕ) × (record {
      some : 1 ≤ l.passes;
      few : l.passes ≤ moved + 1;
      none : l.passes ≡ 1 → moved ≡ 0;
      passes : ArePasses moved (g.B.Board.grid l.fn.board) (g.B.Board.grid l.board) 0 l.layer;
      table : g.B.Board.table l.board ≡ g.B.Board.table l.fn.board;
      origin : g.B.Board.origin l.board ≡ g.B.Board.origin l.fn.board;
    })
