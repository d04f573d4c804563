use Rattle.std.proofs.Common.{◌∙◌, Bool, List, ap, sym}
use Rattle.ps_levels.specs.EntriesShown.{entries_shown}
use Rattle.ps_warnings.specs.Marks.{marked}
use Rattle.ps_warnings.specs.MeaningsSeen.{meanings_seen}
use Rattle.ps_warnings.specs.ObjectWarnings.{objects_in_entries, objects_meant}
use Rattle.ps_warnings.proofs.MarksMade.{marked_more}
use Rattle.ps_warnings.proofs.used_objects.mark_used.Goals as goal

pub returns : goal.returns
returns c =
    c.mark_entries.ensures
    ∙ ap (λ (marks : List Bool). marked marks (objects_in_entries (entries_shown c.args.entries.now)))
    c.mark_meant.ensures
    ∙ sym (marked_more c.args.marks.now (objects_meant (meanings_seen c.args.spoken.now))
    (objects_in_entries (entries_shown c.args.entries.now)))
