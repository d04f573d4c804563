use Rattle.std.proofs.Common.{◌≡◌, ◌<◌, fold, take}
use Rattle.ps_view.specs.Corners.{widest}
use Rattle.ps_view.specs.Frames.{texts_of}
use Rattle.ps_view.proofs.cells.cell_width.Given as goal

-- the widest character of the rows passed by
abbrev pub invariant-loop-row : goal.invariant-loop-row
invariant-loop-row l = record {
  widest : l.columns ≡ fold widest 1 (take l.row-index (texts_of l.frame));
  some : 0 < l.columns;
}
