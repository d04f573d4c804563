use Rattle.std.proofs.Common.{◌≡◌, drop}
use Rattle.std.specs.List.{list_any}
use Rattle.ps_levels.specs.EntriesShown.{entries_shown, is_level_entry}
use Rattle.ps_levels.proofs.levels.has_level.Given as goal

abbrev pub invariant-loop-entry : goal.invariant-loop-entry
invariant-loop-entry l = list_any is_level_entry (entries_shown (drop l.entry-index l.entries)) ≡ list_any
    is_level_entry (entries_shown l.entries)
