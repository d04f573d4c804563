use Rattle.std.proofs.Common.{◌≡◌, ◌++◌, drop}
use Rattle.ps_model.specs.names.ObjectLines.{objects_below, object_texts}
use Rattle.ps_names.specs.LinesThere.{lines_at}
use Rattle.ps_names.specs.LinesShown.{objects_shown}
use Rattle.ps_names.proofs.objects.object_texts.Given as goal

abbrev pub invariant-loop-at : goal.invariant-loop-at
invariant-loop-at l = objects_shown l.made.items ++ objects_below l.above (lines_at l.source (drop l.at l.lines)) ≡
    object_texts (lines_at l.source l.lines)
