use Rattle.std.proofs.Common.{arith}
use Rattle.ps_warnings.specs.LevelStarts.{numbers_at}
use Rattle.ps_warnings.proofs.LinesPassed.{stepped}
use Rattle.ps_warnings.proofs.level_starts.entry_numbers.Goals as goal

pub loop-line-preserved : goal.loop-line-preserved
loop-line-preserved c =
    stepped numbers_at c.args.source.now c.loop-line.line c.args.lines.now.end c.loop-line.is_below_row
    c.in_ok-is_below_row.is_below_row c.loop-line.numbers.items c.pass.new.numbers.items _ (omega arith) (omega arith)
    (omega arith) c.in_ok-is_below_row.ensures c.loop-line.invariant
