use Rattle.std.proofs.Common.{◌≡◌, drop}
use Rattle.std.specs.List.{list_any}
use Rattle.ps_warnings.specs.GroundWarnings.{is_stuck}
use Rattle.ps_warnings.proofs.grounds.has_stuck.Given as goal

-- those passed by have room, or don't move
abbrev pub invariant-loop-object : goal.invariant-loop-object
invariant-loop-object l =
    list_any (is_stuck l.names l.put) (drop l.object-index l.objects)
    ≡ list_any (is_stuck l.names l.put) l.objects
