use Rattle.std.proofs.Common.{◌≡◌, drop}
use Rattle.ps_places.specs.FittingWays.{way_fits}
use Rattle.ps_places.specs.RowPlaces.{way_of}
use Rattle.ps_places.proofs.chosen.RowScratch+Columns+W.fits.Given as goal

-- the parts passed by fit
abbrev pub invariant-loop-number : goal.invariant-loop-number
invariant-loop-number g l =
    let grid = g.B.Board.grid l.board in
    let table = g.B.Board.table l.board in
    way_fits grid table l.row.axis l.self.line l.row.parts (way_of l.row l.self)
    ≡ way_fits grid table l.row.axis l.self.line (drop l.number l.row.parts) (drop l.number (way_of l.row l.self))
