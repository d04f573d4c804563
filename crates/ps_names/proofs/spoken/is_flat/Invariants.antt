use Rattle.std.proofs.Common.{ℕ, ◌<◌}
use Rattle.ps_model.specs.names.Meanings.{OfLine, mentions_of}
use Rattle.ps_names.specs.LegendNames.{legend_shown}
use Rattle.ps_names.specs.Flattened.{IsFlatAt}
use Rattle.ps_names.proofs.spoken.is_flat.Given as goal

abbrev pub invariant-loop-place : goal.invariant-loop-place
invariant-loop-place l = (line : ℕ) → line < l.place →
    IsFlatAt l.levels l.lists line (mentions_of (legend_shown l.legend) (OfLine line))
