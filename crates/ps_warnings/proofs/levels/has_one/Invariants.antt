use Rattle.std.proofs.Common.{◌≡◌, drop}
use Rattle.std.specs.List.{list_any}
use Rattle.ps_model.specs.names.Names.{is_among}
use Rattle.ps_warnings.proofs.levels.has_one.Given as goal

-- the objects passed by are none of them
abbrev pub invariant-loop-object : goal.invariant-loop-object
invariant-loop-object l = list_any (is_among l.others) (drop l.object-index l.objects) ≡ list_any (is_among l.others)
    l.objects
