use Rattle.std.proofs.Common.{◌≡◌, ◌+◌, ◌≤◌, drop}
use Rattle.ps_model.specs.text.Lines.{lines_of}
use Rattle.ps_facts.specs.LayerWords.{layer_lines}
use Rattle.ps_facts.proofs.LayerLines.{layers_from}
use Rattle.ps_facts.proofs.layers.line_of_layer.Given as goal

-- the layers passed by are counted
abbrev pub invariant-loop-line : goal.invariant-loop-line
invariant-loop-line l =
    record {
      few : l.above + 1 ≤ l.line;
      behind : drop l.above (layer_lines (lines_of l.source)) ≡ layers_from l.source l.line;
    }
