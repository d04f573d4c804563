use Rattle.std.proofs.Common.{◌≡◌, drop}
use Rattle.std.specs.List.{list_all}
use Rattle.ps_warnings.specs.Sharing.{can_meet_each}
use Rattle.ps_warnings.proofs.sharing.can_all_join.Given as goal

-- those passed by can be with them
abbrev pub invariant-loop-member : goal.invariant-loop-member
invariant-loop-member l =
    list_all (can_meet_each l.names l.objects) (drop l.member-index l.members)
    ≡ list_all (can_meet_each l.names l.objects) l.members
