use Rattle.std.proofs.Common.{◌≡◌, ℕ, true, drop}
use Rattle.ps_model.specs.board.Attempts.{Rewritten, rewritten_along}
use Rattle.ps_places.specs.FittingWays.{way_fits}
use Rattle.ps_places.specs.RowPlaces.{cells_meaning, part_sizes, place_at, way_of}
use Rattle.ps_places.specs.Spaced.{IsSpaced}
use Rattle.ps_places.proofs.PlacesOfWays.{row_rewritten_from}
use Rattle.ps_match.specs.FixedParts.{fixed_part}
use Rattle.ps_places.proofs.chosen.RowScratch+Columns+W.rewrite_fitting.Given as goal

-- the parts passed by are rewritten, and the others still fit
abbrev pub invariant-loop-number : goal.invariant-loop-number
invariant-loop-number g l =
    let before : Rewritten = record { grid = g.B.Board.grid l.fn.board; changed = l.fn.changed } in
    let now : Rewritten = record { grid = g.B.Board.grid l.board; changed = l.any } in
    let table = g.B.Board.table l.fn.board in
    let height = (g.B.Board.grid l.fn.board).height in
    record {
      rewritten :
          rewritten_along before (cells_meaning table l.row.parts) (place_at height l.row l.self)
          ≡ row_rewritten_from now table l.row.axis height l.self.line l.row.parts (way_of l.row l.self) l.number;
      fit :
          way_fits (g.B.Board.grid l.board) table l.row.axis l.self.line (drop l.number l.row.parts)
          (drop l.number (way_of l.row l.self)) ≡ true;
      spaced : (from : ℕ) × IsSpaced (part_sizes (drop l.number l.row.parts)) from
          (drop l.number (way_of l.row l.self));
      fixed : fixed_part g.B.Board l.board ≡ fixed_part g.B.Board l.fn.board;
    }
