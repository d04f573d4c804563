use Rattle.std.proofs.Common.{◌≡◌, ◌≤◌, ◌+◌, drop, filter, length}
use Rattle.ps_model.specs.session.Sessions.{is_level}
use Rattle.ps_levels.specs.EntriesShown.{entries_shown}
use Rattle.ps_describe.proofs.described.levels_among.Given as goal

-- the levels passed by are counted, and the others lie ahead
abbrev pub invariant-loop-entry : goal.invariant-loop-entry
invariant-loop-entry l = record {
  counted : l.count + length (filter is_level (entries_shown (drop l.entry-index l.entries))) ≡ length
      (filter is_level (entries_shown l.entries));
  few : l.count ≤ l.entry-index;
}
