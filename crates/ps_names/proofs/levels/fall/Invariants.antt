use Rattle.std.proofs.Common.{◌≡◌, ◌<◌, ◌+◌, ℕ, true}
use Rattle.ps_model.specs.names.Meanings.{OfLine, mentions_of}
use Rattle.ps_names.specs.LegendNames.{legend_shown}
use Rattle.ps_names.specs.Levels.{level, are_below}
use Rattle.ps_names.proofs.levels.fall.Given as goal

abbrev pub invariant-loop-place : goal.invariant-loop-place
invariant-loop-place l = (line : ℕ) → line < l.place →
    are_below l.levels (level l.levels line + 1) (mentions_of (legend_shown l.legend) (OfLine line)) ≡ true
