use Rattle.std.proofs.Common.{◌≡◌, ◌++◌, drop, map}
use Rattle.ps_names.specs.MeaningSteps.{meanings_shown}
use Rattle.ps_names.specs.Tables.{meaning_with}
use Rattle.ps_names.proofs.table.Table.new.Given as goal

abbrev pub invariant-loop-place : goal.invariant-loop-place
invariant-loop-place l = meanings_shown l.meanings.items ++ map (meaning_with (meanings_shown l.legend))
    (drop l.place l.fn.known) ≡ map (meaning_with (meanings_shown l.legend)) l.fn.known
