use Rattle.std.proofs.Common.{◌≡◌, ◌-◌, length}
use Rattle.ps_model.specs.names.Meanings.{OfLine, meaning_behind}
use Rattle.ps_names.specs.Known.{mention_shown}
use Rattle.ps_names.specs.LegendNames.{legend_shown}
use Rattle.ps_names.proofs.meanings.meaning_behind.Given as goal

abbrev pub invariant-loop-passed : goal.invariant-loop-passed
invariant-loop-passed l = meaning_behind (legend_shown l.legend) (length l.legend - l._passed)
    (mention_shown l.mention) ≡ meaning_behind (legend_shown l.legend) (length l.legend) (OfLine l.place)
