use Rattle.std.proofs.Common.{◌≡◌, drop}
use Rattle.ps_levels.specs.EntriesShown.{entries_shown}
use Rattle.ps_warnings.specs.Marks.{marked}
use Rattle.ps_warnings.specs.ObjectWarnings.{objects_in_entries}
use Rattle.ps_warnings.proofs.used_objects.mark_entries.Given as goal

-- what is left comes to the whole
abbrev pub invariant-loop-entry : goal.invariant-loop-entry
invariant-loop-entry l =
    marked l.marks (objects_in_entries (entries_shown (drop l.entry-index l.entries)))
    ≡ marked l.initial.marks (objects_in_entries (entries_shown l.entries))
