use Rattle.std.proofs.Common.{◌≡◌, drop}
use Rattle.std.specs.List.{list_any}
use Rattle.ps_warnings.specs.Sharing.{can_meet_each}
use Rattle.ps_warnings.proofs.sharing.can_one_join.Given as goal

-- those passed by can't be with them
abbrev pub invariant-loop-member : goal.invariant-loop-member
invariant-loop-member l =
    list_any (can_meet_each l.names l.objects) (drop l.member-index l.members)
    ≡ list_any (can_meet_each l.names l.objects) l.members
