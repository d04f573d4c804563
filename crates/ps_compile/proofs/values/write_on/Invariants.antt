use Rattle.std.proofs.Common.{◌≡◌, drop}
use Rattle.ps_model.specs.meaning.Compiled.{write_on}
use Rattle.ps_compile.proofs.values.write_on.Given as goal

abbrev pub invariant-loop-write : goal.invariant-loop-write
invariant-loop-write l =
    write_on l.layer.0 (drop l.write-index l.writes)
    ≡ write_on l.layer.0 l.writes
