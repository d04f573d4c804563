use Rattle.std.proofs.Common.{◌≡◌, ◌++◌, drop}
use Rattle.std.specs.Prelude.{map}
use Rattle.std.specs.List.{flat_map}
use Rattle.ps_model.specs.meaning.CompiledCells.{layered, one_of_by}
use Rattle.ps_readings.specs.WantedShown.{wanteds_shown}
use Rattle.ps_compile.proofs.masks.one_of_of.Given as goal

abbrev pub invariant-loop-wanted : goal.invariant-loop-wanted
invariant-loop-wanted l = l.made.items ++ map (map (layered l.names))
    (flat_map one_of_by (wanteds_shown (drop l.wanted-index l.side))) ≡ map (map (layered l.names))
    (flat_map one_of_by (wanteds_shown l.side))
