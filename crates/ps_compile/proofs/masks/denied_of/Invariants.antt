use Rattle.std.proofs.Common.{◌≡◌, ◌++◌, drop}
use Rattle.std.specs.Prelude.{map}
use Rattle.std.specs.List.{flat_map}
use Rattle.ps_model.specs.meaning.CompiledCells.{layered}
use Rattle.ps_model.specs.meaning.Wanted.{denied}
use Rattle.ps_readings.specs.WantedShown.{wanteds_shown}
use Rattle.ps_compile.proofs.masks.denied_of.Given as goal

abbrev pub invariant-loop-wanted : goal.invariant-loop-wanted
invariant-loop-wanted l = l.made.items ++ map (layered l.names)
    (flat_map denied (wanteds_shown (drop l.wanted-index l.side))) ≡ map (layered l.names)
    (flat_map denied (wanteds_shown l.side))
