use Rattle.std.proofs.Common.{◌≡◌, ◌++◌, drop, map}
use Rattle.ps_names.specs.LayersShown.{layers_shown, layer_over}
use Rattle.ps_names.specs.LinesShown.{lines_shown}
use Rattle.ps_names.proofs.layers.layers_of_lines.Given as goal

abbrev pub invariant-loop-line : goal.invariant-loop-line
invariant-loop-line l = layers_shown l.layers.items ++ map (layer_over l.table)
    (lines_shown (drop l.line-index l.lines)) ≡ map (layer_over l.table) (lines_shown l.lines)
