use Rattle.std.proofs.Common.{arith}
use Rattle.ps_warnings.specs.WordWarnings.{warnings_of_words}
use Rattle.ps_warnings.proofs.LinesPassed.{passed, all_passed}
use Rattle.ps_warnings.proofs.word_lines.warn_of_rule_words.Goals as goal

pub loop-line-preserved : goal.loop-line-preserved
loop-line-preserved c =
    passed warnings_of_words c.args.source.now c.loop-line.line c.args.lines.now.end c.loop-line.told.items
    c.warn_of_words.new.told.items _ (omega arith) (omega arith) (omega arith) c.in_ok-warn_of_words.ensures
    c.loop-line.invariant

pub returns : goal.returns
returns c =
    all_passed warnings_of_words c.args.source.now c.loop-line.line c.args.lines.now.end c.loop-line.told.items _
    (omega arith) c.loop-line.invariant
