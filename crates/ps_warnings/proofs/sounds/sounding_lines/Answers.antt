use Rattle.std.proofs.Common.{arith}
use Rattle.ps_warnings.specs.Sounds.{sounding_line}
use Rattle.ps_warnings.proofs.LinesPassed.{passed, all_passed}
use Rattle.ps_warnings.proofs.sounds.sounding_lines.Goals as goal

pub loop-line-preserved : goal.loop-line-preserved
loop-line-preserved c =
    passed sounding_line c.args.source.now c.loop-line.line c.args.lines.now.end c.loop-line.numbers.items
    c.push_line.new.numbers.items _ (omega arith) (omega arith) (omega arith) c.in_ok-push_line.ensures
    c.loop-line.invariant

pub returns : goal.returns
returns c =
    all_passed sounding_line c.args.source.now c.loop-line.line c.args.lines.now.end c.loop-line.numbers.items _
    (omega arith) c.loop-line.invariant
