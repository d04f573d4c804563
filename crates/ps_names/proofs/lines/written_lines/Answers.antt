use Rattle.std.proofs.Common.{◌+◌, ◌∙◌, arith}
use Rattle.ps_names.specs.LinesShown.{lines_shown}
use Rattle.ps_names.proofs.written.WrittenSteps.{written-step}
use Rattle.ps_names.proofs.lines.written_lines.Goals as goal

pub loop-line-preserved : goal.loop-line-preserved
loop-line-preserved c =
    record {
      few = omega (arith, c.in_ok-push_written.ensures.one, c.loop-line.invariant.few);
      lines =
          written-step c.args.source.now c.args.cut (lines_shown c.loop-line.made.items)
          (lines_shown c.push_written.new.made.items) c.args.lines.now c.loop-line.line-index
          (c.loop-line.line-index + 1) 0
          c.loop-line-test.true (omega arith) c.in_ok-push_written.ensures.lines
          ∙ c.loop-line.invariant.lines;
    }
