use Rattle.std.proofs.Common.{◌≡◌, map, length}
use Rattle.ps_model.specs.names.LegendLines.{joined_by}
use Rattle.ps_text.specs.WordViews.{text_of}
use Rattle.ps_names.specs.LegendShown.{behind}
use Rattle.ps_names.proofs.legend.joined_by.Given as goal

abbrev pub invariant-loop-rest : goal.invariant-loop-rest
invariant-loop-rest l = behind (map (λ n. n.now) l.names.items) (joined_by l.key (map text_of l.rest)) ≡ joined_by
    l.key (map text_of l.words)

abbrev pub decreases-loop-rest : goal.decreases-loop-rest
decreases-loop-rest l = length l.rest
