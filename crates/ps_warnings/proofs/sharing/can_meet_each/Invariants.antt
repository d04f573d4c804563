use Rattle.std.proofs.Common.{◌≡◌, drop}
use Rattle.std.specs.List.{list_all}
use Rattle.ps_warnings.specs.Sharing.{can_meet}
use Rattle.ps_warnings.proofs.sharing.can_meet_each.Given as goal

-- those passed by can be with it
abbrev pub invariant-loop-other : goal.invariant-loop-other
invariant-loop-other l =
    list_all (can_meet l.names l.object) (drop l.other-index l.objects)
    ≡ list_all (can_meet l.names l.object) l.objects
