use Rattle.std.proofs.Common.{◌≡◌, ◌≤◌, take, filter, length}
use Rattle.ps_model.specs.session.Sessions.{is_level}
use Rattle.ps_levels.specs.EntriesShown.{entries_shown}
use Rattle.ps_stage.proofs.numbers.levels_among.Given as goal

-- the levels passed by are counted
abbrev pub invariant-loop-entry : goal.invariant-loop-entry
invariant-loop-entry l = record {
  counted : l.count ≡ length (filter is_level (entries_shown (take l.entry-index l.entries)));
  few : l.count ≤ l.entry-index;
}
