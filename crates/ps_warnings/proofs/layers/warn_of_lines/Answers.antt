use Rattle.std.proofs.Common.{arith}
use Rattle.ps_warnings.specs.LayerWarnings.{layers_from}
use Rattle.ps_warnings.proofs.LayersPassed.{all_layers_passed}
use Rattle.ps_warnings.proofs.LinesPassed.{stepped}
use Rattle.ps_warnings.proofs.layers.warn_of_lines.Goals as goal

pub loop-line-preserved : goal.loop-line-preserved
loop-line-preserved c =
    record {
      within = omega (arith, c.in_ok-layer.ensures.within);
      whole =
          stepped (layers_from c.args.facts.now.names.now c.args.facts.now.numbers.now) c.args.facts.now.source.now
          c.loop-line.line c.args.lines.now.end c.loop-line.layer c.in_ok-layer.layer c.loop-line.told.items
          c.pass.new.told.items _ (omega arith) (omega arith) (omega arith) c.in_ok-layer.ensures.told
          c.loop-line.invariant.whole;
    }

pub returns : goal.returns
returns c =
    all_layers_passed c.args.facts.now.source.now c.args.facts.now.names.now c.args.facts.now.numbers.now
    c.loop-line.line c.args.lines.now.end c.loop-line.layer c.loop-line.told.items _ (omega arith)
    c.loop-line.invariant.whole
