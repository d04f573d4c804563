use Rattle.std.proofs.Common.{◌≡◌, ◌++◌, drop}
use Rattle.ps_levels.specs.EntriesShown.{entries_shown}
use Rattle.ps_warnings.specs.LevelWarnings.{warnings_at}
use Rattle.ps_warnings.proofs.levels.warn_of_levels.Given as goal

-- what is left comes to the whole
abbrev pub invariant-loop-at : goal.invariant-loop-at
invariant-loop-at l =
    l.told.items ++ warnings_at l.names (drop l.at l.numbers) (entries_shown (drop l.at l.entries))
    ≡ l.initial.told.items ++ warnings_at l.names l.numbers (entries_shown l.entries)
