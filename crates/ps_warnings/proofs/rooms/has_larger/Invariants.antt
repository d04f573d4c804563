use Rattle.std.proofs.Common.{◌≡◌, drop}
use Rattle.std.specs.List.{list_any}
use Rattle.ps_levels.specs.EntriesShown.{entries_shown}
use Rattle.ps_warnings.specs.RoomWarnings.{is_larger_entry}
use Rattle.ps_warnings.proofs.rooms.has_larger.Given as goal

-- the entries passed by aren't larger
abbrev pub invariant-loop-entry : goal.invariant-loop-entry
invariant-loop-entry l =
    list_any (is_larger_entry l.size) (entries_shown (drop l.entry-index l.entries))
    ≡ list_any (is_larger_entry l.size) (entries_shown l.entries)
