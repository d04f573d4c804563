use Rattle.std.proofs.Common.{◌≡◌}
use Rattle.std.specs.List.{flat_map}
use Rattle.ps_model.specs.declared.texts.Cut.TheVariants.{Layers}
use Rattle.ps_model.specs.text.LineNumbers.{lines_between}
use Rattle.ps_warnings.specs.Marks.{marked}
use Rattle.ps_warnings.specs.NameWarnings.{lines_named}
use Rattle.ps_warnings.proofs.used_names.mark_layers.Given as goal

-- what is left comes to the whole
abbrev pub invariant-loop-line : goal.invariant-loop-line
invariant-loop-line l =
    marked l.used (flat_map (lines_named l.names Layers) (lines_between l.source l.line l.fn.lines.end))
    ≡ marked l.initial.used (flat_map (lines_named l.names Layers)
    (lines_between l.source l.fn.lines.start l.fn.lines.end))
