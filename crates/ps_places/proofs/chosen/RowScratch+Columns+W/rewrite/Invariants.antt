use Rattle.std.proofs.Common.{◌≡◌}
use Rattle.ps_model.specs.board.Attempts.{Rewritten, rewritten_along}
use Rattle.ps_places.specs.RowPlaces.{cells_meaning, place_at, way_of}
use Rattle.ps_places.proofs.PlacesOfWays.{row_rewritten_from}
use Rattle.ps_match.specs.FixedParts.{fixed_part}
use Rattle.ps_places.proofs.chosen.RowScratch+Columns+W.rewrite.Given as goal

-- the parts passed by are rewritten
abbrev pub invariant-loop-number : goal.invariant-loop-number
invariant-loop-number g l =
    let before : Rewritten = record { grid = g.B.Board.grid l.fn.board; changed = l.fn.changed } in
    let now : Rewritten = record { grid = g.B.Board.grid l.board; changed = l.any } in
    let table = g.B.Board.table l.fn.board in
    let height = (g.B.Board.grid l.fn.board).height in
    record {
      rewritten :
          rewritten_along before (cells_meaning table l.row.parts) (place_at height l.row l.self)
          ≡ row_rewritten_from now table l.row.axis height l.self.line l.row.parts (way_of l.row l.self) l.number;
      fixed : fixed_part g.B.Board l.board ≡ fixed_part g.B.Board l.fn.board;
    }
