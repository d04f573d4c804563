use Rattle.std.proofs.Common.{◌≡◌, ◌++◌, ◌<◌}
use Rattle.ps_model.specs.text.LineNumbers.{lines_between}
use Rattle.ps_warnings.specs.LayerWarnings.{layers_from}
use Rattle.ps_warnings.proofs.layers.warn_of_lines.Given as goal

-- what is left comes to the whole
abbrev pub invariant-loop-line : goal.invariant-loop-line
invariant-loop-line l =
    record {
      within : l.layer < l.line;
      whole : l.told.items ++ layers_from l.facts.names.now l.facts.numbers.now l.layer
          (lines_between l.facts.source.now l.line l.fn.lines.end)
          ≡ l.initial.told.items ++ layers_from l.facts.names.now l.facts.numbers.now 0
          (lines_between l.facts.source.now l.fn.lines.start l.fn.lines.end);
    }
