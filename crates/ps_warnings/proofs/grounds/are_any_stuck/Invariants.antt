use Rattle.std.proofs.Common.{◌≡◌, drop}
use Rattle.std.specs.List.{list_any}
use Rattle.ps_warnings.specs.GroundWarnings.{is_any_stuck}
use Rattle.ps_warnings.specs.MeaningsSeen.{meanings_seen}
use Rattle.ps_warnings.proofs.grounds.are_any_stuck.Given as goal

-- those passed by have room
abbrev pub invariant-loop-meaning : goal.invariant-loop-meaning
invariant-loop-meaning l =
    list_any (is_any_stuck l.names l.put) (meanings_seen (drop l.meaning-index l.moved))
    ≡ list_any (is_any_stuck l.names l.put) (meanings_seen l.moved)
