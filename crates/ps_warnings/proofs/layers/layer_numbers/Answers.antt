use Rattle.std.proofs.Common.{arith}
use Rattle.ps_warnings.specs.LayerWarnings.{layer_number}
use Rattle.ps_warnings.proofs.LinesPassed.{passed, all_passed}
use Rattle.ps_warnings.proofs.layers.layer_numbers.Goals as goal

pub loop-line-preserved : goal.loop-line-preserved
loop-line-preserved c =
    passed layer_number c.args.source.now c.loop-line.line c.args.lines.now.end c.loop-line.numbers.items
    c.push_number.new.numbers.items _ (omega arith) (omega arith) (omega arith) c.in_ok-push_number.ensures
    c.loop-line.invariant

pub returns : goal.returns
returns c =
    all_passed layer_number c.args.source.now c.loop-line.line c.args.lines.now.end c.loop-line.numbers.items _
    (omega arith) c.loop-line.invariant
