use Rattle.std.proofs.Common.{◌≡◌, ◌++◌, map, drop}
use Rattle.ps_levels.specs.Cells.{cells_shown, meanings_shown, objects_of}
use Rattle.ps_levels.proofs.glyphs.cells_of.Given as goal

abbrev pub invariant-loop-meaning : goal.invariant-loop-meaning
invariant-loop-meaning l = cells_shown l.cells.items ++ map objects_of
    (meanings_shown (drop l.meaning-index l.meanings)) ≡ map objects_of (meanings_shown l.meanings)
