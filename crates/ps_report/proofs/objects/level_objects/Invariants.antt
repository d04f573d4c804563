use Rattle.std.proofs.Common.{◌≡◌, ◌++◌, drop, map}
use Rattle.serde_json.specs.View.{view}
use Rattle.ps_levels.specs.EntriesShown.{entries_shown}
use Rattle.ps_report.specs.Objects.{levels_data}
use Rattle.ps_report.proofs.objects.level_objects.Given as goal

-- what is left comes to the whole
abbrev pub invariant-loop-entry : goal.invariant-loop-entry
invariant-loop-entry l =
    map view l.told.items ++ levels_data (entries_shown (drop l.entry-index l.entries)) ≡ levels_data
    (entries_shown l.entries)
