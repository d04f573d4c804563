use Rattle.std.proofs.Common.{arith}
use Rattle.ps_warnings.specs.RowWarnings.{told_below}
use Rattle.ps_warnings.proofs.LinesPassed.{stepped}
use Rattle.ps_warnings.proofs.RowsPassed.{all_rows_passed}
use Rattle.ps_warnings.proofs.level_rows.warn_of_rows.Goals as goal

pub loop-line-preserved : goal.loop-line-preserved
loop-line-preserved c =
    stepped told_below c.args.source.now c.loop-line.line c.args.lines.now.end c.loop-line.above
    c.in_ok-above.above c.loop-line.told.items c.pass.new.told.items _ (omega arith) (omega arith)
    (omega arith) c.in_ok-above.ensures c.loop-line.invariant

pub returns : goal.returns
returns c =
    all_rows_passed c.args.source.now c.loop-line.line c.args.lines.now.end c.loop-line.above c.loop-line.told.items _
    (omega arith) c.loop-line.invariant
