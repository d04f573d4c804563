use Rattle.std.proofs.Common.{◌≡◌, ◌++◌}
use Rattle.ps_model.specs.text.LineNumbers.{lines_between}
use Rattle.ps_warnings.specs.LayerWarnings.{layer_numbers}
use Rattle.ps_warnings.proofs.layers.layer_numbers.Given as goal

-- what is left comes to the whole
abbrev pub invariant-loop-line : goal.invariant-loop-line
invariant-loop-line l = l.numbers.items ++ layer_numbers (lines_between l.source l.line l.fn.lines.end)
    ≡ layer_numbers (lines_between l.source l.fn.lines.start l.fn.lines.end)
