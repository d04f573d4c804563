use Rattle.std.proofs.Common.{◌≡◌, ◌++◌, drop}
use Rattle.std.specs.Prelude.{map}
use Rattle.ps_model.specs.meaning.CompiledCells.{layered}
use Rattle.ps_compile.proofs.masks.push_layered.Given as goal

abbrev pub invariant-loop-object : goal.invariant-loop-object
invariant-loop-object l = l.made.items ++ map (layered l.names) (drop l.object-index l.objects) ≡ l.initial.made.items
    ++ map (layered l.names) l.objects
