use Rattle.std.proofs.Common.{◌≡◌, ◌≤◌}
use Rattle.ps_levels.specs.EntriesShown.{entries_shown}
use Rattle.ps_laws.proofs.sessions.LevelNumbers.{levels_before}
use Rattle.ps_stage.proofs.LevelPlaces.{IsBeyond}
use Rattle.ps_stage.proofs.numbers.level_entry.Given as goal

-- the levels passed by are counted, and the one that is looked for isn't among them
abbrev pub invariant-loop-place : goal.invariant-loop-place
invariant-loop-place l = record {
  counted : l.count ≡ levels_before (entries_shown l.entries) l.place;
  few : l.count ≤ l.place;
  beyond : IsBeyond (entries_shown l.entries) l.level l.place;
}
