use Rattle.std.proofs.Common.{arith}
use Rattle.ps_model.specs.declared.texts.Cut.TheVariants.{Layers}
use Rattle.ps_warnings.specs.NameWarnings.{lines_named}
use Rattle.ps_warnings.proofs.MarksMade.{marked_passed, all_marked}
use Rattle.ps_warnings.proofs.used_names.mark_layers.Goals as goal

pub loop-line-preserved : goal.loop-line-preserved
loop-line-preserved c =
    marked_passed (lines_named c.args.names.now Layers) c.args.source.now c.loop-line.line c.args.lines.now.end
    c.loop-line.used c.mark_layer.new.used _ (omega arith) (omega arith) (omega arith) c.in_ok-mark_layer.ensures
    c.loop-line.invariant

pub returns : goal.returns
returns c =
    all_marked (lines_named c.args.names.now Layers) c.args.source.now c.loop-line.line c.args.lines.now.end
    c.loop-line.used _ (omega arith) c.loop-line.invariant
