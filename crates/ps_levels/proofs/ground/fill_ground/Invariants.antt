use Rattle.std.proofs.Common.{◌≡◌, map, take}
use Rattle.ps_model.specs.board.Levels.{with_ground}
use Rattle.ps_levels.specs.Cells.{cells_shown}
use Rattle.ps_levels.proofs.ground.fill_ground.Given as goal

abbrev pub invariant-loop-objects : goal.invariant-loop-objects
invariant-loop-objects l = l.made ≡ map (with_ground l.names l.filler)
    (cells_shown (take l.objects-index l.cells))
