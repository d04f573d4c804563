use Rattle.std.proofs.Common.{◌≡◌, ◌++◌}
use Rattle.ps_rows.specs.Members.{on_layer_below}
use Rattle.ps_rows.proofs.members.push_members.Given as goal

-- the objects passed by are added
abbrev pub invariant-loop-object : goal.invariant-loop-object
invariant-loop-object l = l.numbers.items ≡ l.initial.numbers.items ++ on_layer_below l.table l.layer l.object
