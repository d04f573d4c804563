use Rattle.std.proofs.Common.{◌≡◌, drop}
use Rattle.ps_warnings.specs.Marks.{marked}
use Rattle.ps_warnings.specs.MeaningsSeen.{meanings_seen}
use Rattle.ps_warnings.specs.NameWarnings.{lines_meant}
use Rattle.ps_warnings.proofs.used_names.mark_meant.Given as goal

-- what is left comes to the whole
abbrev pub invariant-loop-meaning : goal.invariant-loop-meaning
invariant-loop-meaning l =
    marked l.used (lines_meant (meanings_seen (drop l.meaning-index l.spoken)))
    ≡ marked l.initial.used (lines_meant (meanings_seen l.spoken))
