use Rattle.std.proofs.Common.{◌≡◌, ◌++◌, drop}
use Rattle.std.specs.List.{filter_map}
use Rattle.ps_model.specs.meaning.CompiledCells.{motion_test}
use Rattle.ps_compile.proofs.masks.motions_of.Given as goal

abbrev pub invariant-loop-claim : goal.invariant-loop-claim
invariant-loop-claim l = l.made.items ++ filter_map motion_test (drop l.claim-index l.claims) ≡ filter_map motion_test
    l.claims
