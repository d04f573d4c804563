use Rattle.std.proofs.Common.{◌≡◌, ◌++◌, take}
use Rattle.ps_view.specs.Corners.{lined_up}
use Rattle.ps_view.proofs.parts.add_cells.Given as goal

-- the cells of the characters passed by are added
abbrev pub invariant-loop-character : goal.invariant-loop-character
invariant-loop-character l = l.cells ≡ l.fn.cells ++ lined_up l.width (take l.character-index l.characters)
