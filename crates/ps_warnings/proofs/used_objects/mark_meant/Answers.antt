use Rattle.std.proofs.Common.{Bor, List, refl}
use Rattle.ps_model.specs.names.Names.{members}
use Rattle.ps_names.specs.declared.meaning.Meaning.{Meaning}
use Rattle.ps_names.specs.Shown.{meaning_shown}
use Rattle.ps_warnings.specs.MeaningsSeen.{meanings_seen}
use Rattle.ps_warnings.specs.ObjectWarnings.{numbers, objects_meant}
use Rattle.ps_warnings.proofs.MarksMade.{marked_step}
use Rattle.ps_warnings.proofs.used_objects.mark_meant.Goals as goal

pub loop-meaning-preserved : goal.loop-meaning-preserved
loop-meaning-preserved c =
    marked_step (λ (spoken : List (Bor Meaning)). objects_meant (meanings_seen spoken)) c.loop-meaning.marks
    c.mark_meaning.new.marks _ (numbers (members (meaning_shown c.meaning-item.result.now))) c.args.spoken.now
    c.loop-meaning.meaning-index c.meaning-item.result _ c.mark_meaning.ensures c.loop-meaning-test.true
    c.meaning-item.is refl c.loop-meaning.invariant
