use Rattle.std.proofs.Common.{◌∙◌}
use Rattle.std.proofs.lemmas.List.{length-set}
use Rattle.ps_board.specs.ColumnSets.{both_columns}
use Rattle.ps_rows.proofs.Joined.{joined_each, joined_one, others_left}
use Rattle.ps_rows.proofs.scanning_rows.keep_both.Goals as goal

pub loop-step-preserved : goal.loop-step-preserved
loop-step-preserved g c =
    let was = c.loop-step.invariant in
    record {
      done = joined_one both_columns c.args.found.now c.args.words.now c.loop-step.found c.loop-step.step
          c.index-found-step.result c.index-words-step.result c.both.result c.loop-step-test.true c.requires was.long
          c.index-found-step.is c.index-words-step.is c.both.ensures was.done was.left;
      left = others_left both_columns c.args.found.now c.args.words.now c.loop-step.found c.loop-step.step
          c.both.result was.left;
      long = length-set c.loop-step.found c.loop-step.step c.both.result ∙ was.long;
    }

pub returns : goal.returns
returns g c = record {
  both = joined_each both_columns c.args.found.now c.args.words.now c.loop-step.found c.loop-step.step
      c.loop-step-test.false
      c.loop-step.invariant.done;
  long = c.loop-step.invariant.long;
}
