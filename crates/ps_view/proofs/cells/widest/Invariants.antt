use Rattle.std.proofs.Common.{◌≡◌, ◌≤◌, take}
use Rattle.ps_view.specs.Corners.{widest}
use Rattle.ps_view.proofs.cells.widest.Given as goal

-- the widest of the characters passed by
abbrev pub invariant-loop-character : goal.invariant-loop-character
invariant-loop-character l = record {
  widest : l.columns ≡ widest l.least (take l.character-index l.row);
  least : l.least ≤ l.columns;
}
