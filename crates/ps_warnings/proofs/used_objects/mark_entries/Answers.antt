use Rattle.std.proofs.Common.{List, refl}
use Rattle.ps_levels.specs.declared.levels.Entry.{Entry}
use Rattle.ps_levels.specs.EntriesShown.{entry_shown, entries_shown}
use Rattle.ps_warnings.specs.ObjectWarnings.{objects_in_entry, objects_in_entries}
use Rattle.ps_warnings.proofs.MarksMade.{marked_step}
use Rattle.ps_warnings.proofs.used_objects.mark_entries.Goals as goal

pub loop-entry-preserved : goal.loop-entry-preserved
loop-entry-preserved c =
    marked_step (λ (entries : List Entry). objects_in_entries (entries_shown entries)) c.loop-entry.marks
    c.mark_entry.new.marks _ (objects_in_entry (entry_shown c.entry-item.result)) c.args.entries.now
    c.loop-entry.entry-index c.entry-item.result _ c.mark_entry.ensures c.loop-entry-test.true c.entry-item.is refl
    c.loop-entry.invariant
