use Rattle.std.proofs.Common.{◌∙◌}
use Rattle.std.proofs.lemmas.List.{length-set}
use Rattle.ps_board.specs.ColumnSets.{columns_without}
use Rattle.ps_rows.proofs.Joined.{joined_each, joined_one, others_left}
use Rattle.ps_rows.proofs.scanning_rows.keep_without.Goals as goal

pub loop-step-preserved : goal.loop-step-preserved
loop-step-preserved g c =
    let was = c.loop-step.invariant in
    record {
      done = joined_one columns_without c.args.found.now c.args.words.now c.loop-step.found c.loop-step.step
          c.index-found-step.result c.index-words-step.result c.without.result c.loop-step-test.true c.requires was.long
          c.index-found-step.is c.index-words-step.is c.without.ensures was.done was.left;
      left = others_left columns_without c.args.found.now c.args.words.now c.loop-step.found c.loop-step.step
          c.without.result was.left;
      long = length-set c.loop-step.found c.loop-step.step c.without.result ∙ was.long;
    }

pub returns : goal.returns
returns g c = record {
  without = joined_each columns_without c.args.found.now c.args.words.now c.loop-step.found c.loop-step.step
      c.loop-step-test.false
      c.loop-step.invariant.done;
  long = c.loop-step.invariant.long;
}
