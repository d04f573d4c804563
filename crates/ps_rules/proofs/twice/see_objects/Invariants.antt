use Rattle.std.proofs.Common.{◌≡◌, ◌++◌, drop}
use Rattle.std.specs.Prelude.{ℕ, List}
use Rattle.ps_rules.specs.Twice.{twice_behind, object_numbers}
use Rattle.ps_rules.proofs.twice.see_objects.Given as goal

abbrev pub invariant-loop-object : goal.invariant-loop-object
invariant-loop-object l = (rest : List ℕ) → twice_behind l.seen.items
    (object_numbers (drop l.object-index l.objects) ++ rest) ≡ twice_behind l.initial.seen.items
    (object_numbers l.objects ++ rest)
