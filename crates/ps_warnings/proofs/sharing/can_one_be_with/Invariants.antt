use Rattle.std.proofs.Common.{◌≡◌, drop}
use Rattle.std.specs.List.{list_any}
use Rattle.ps_names.specs.Shown.{meaning_shown}
use Rattle.ps_warnings.specs.Sharing.{can_be_with}
use Rattle.ps_warnings.proofs.sharing.can_one_be_with.Given as goal

-- those passed by can't be with it
abbrev pub invariant-loop-object : goal.invariant-loop-object
invariant-loop-object l =
    list_any (can_be_with l.names (meaning_shown l.meaning)) (drop l.object-index l.objects)
    ≡ list_any (can_be_with l.names (meaning_shown l.meaning)) l.objects
