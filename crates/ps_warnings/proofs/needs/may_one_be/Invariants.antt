use Rattle.std.proofs.Common.{◌≡◌, drop}
use Rattle.std.specs.List.{list_any}
use Rattle.ps_warnings.specs.Needs.{may_be}
use Rattle.ps_warnings.proofs.needs.may_one_be.Given as goal

-- those passed by can't come to be
abbrev pub invariant-loop-object : goal.invariant-loop-object
invariant-loop-object l =
    list_any (may_be l.there) (drop l.object-index l.objects)
    ≡ list_any (may_be l.there) l.objects
