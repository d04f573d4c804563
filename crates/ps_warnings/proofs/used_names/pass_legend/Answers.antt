use Rattle.std.proofs.Common.{◌∙◌, ◌++◌, List, ℕ, arith, ap}
use Rattle.ps_warnings.specs.NameWarnings.{declaring_line, others_named}
use Rattle.ps_warnings.proofs.LinesPassed.{passed, all_passed}
use Rattle.ps_warnings.proofs.MarksMade.{marked_passed, all_marked}
use Rattle.ps_warnings.proofs.used_names.pass_legend.Goals as goal

pub loop-line-preserved : goal.loop-line-preserved
loop-line-preserved c =
    record {
      used =
          marked_passed (others_named c.args.names.now) c.args.source.now c.loop-line.line c.args.lines.now.end
          c.loop-line.used c.pass.new.used _ (omega arith) (omega arith) (omega arith)
          c.in_ok-declares.ensures.used c.loop-line.invariant.used;
      declaring =
          passed (declaring_line c.args.names.now) c.args.source.now c.loop-line.line c.args.lines.now.end
          c.loop-line.declaring.items c.keep_if.new.lines.items _ (omega arith) (omega arith) (omega arith)
          (c.in_ok-keep_if.ensures.lines
          ∙ ap (λ (more : List ℕ). c.loop-line.declaring.items ++ more) c.in_ok-declares.ensures.declares)
          c.loop-line.invariant.declaring;
      below = c.in_ok-keep_if.ensures.below c.args.lines.now.end (omega arith) c.loop-line.invariant.below;
    }

pub returns-clause-used : goal.returns-clause-used
returns-clause-used c =
    all_marked (others_named c.args.names.now) c.args.source.now c.loop-line.line c.args.lines.now.end
    c.loop-line.used _ (omega arith) c.loop-line.invariant.used

pub returns-clause-declaring : goal.returns-clause-declaring
returns-clause-declaring c =
    all_passed (declaring_line c.args.names.now) c.args.source.now c.loop-line.line c.args.lines.now.end
    c.loop-line.declaring.items _ (omega arith) c.loop-line.invariant.declaring
