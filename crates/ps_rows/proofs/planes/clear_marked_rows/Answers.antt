use Rattle.std.proofs.Common.{◌∙◌, refl}
use Rattle.ps_board.proofs.Taken.{taken_below}
use Rattle.ps_rows.proofs.RowsCleared.{none_cleared, plane_cleared, row_cleared}
use Rattle.ps_rows.proofs.planes.clear_marked_rows.Goals as goal

pub loop-row-init : goal.loop-row-init
loop-row-init g c = (
  none_cleared c.args.height c.args.plane c.args.words.now c.requires.short c.args.marked c.below.result
      c.both-left.result c.below.ensures c.both-left.ensures c.requires.blank,
  refl,
)

pub clear_row-requires : goal.clear_row-requires
clear_row-requires g c =
    record {
      row = taken_below c.loop-row.left c.take_first.new.self c.args.height c.in-Some.row c.in-Some.ensures.some
          c.loop-row.invariant.0.low;
      plane = rw c.loop-row.invariant.1 c.requires.plane;
    }

pub loop-row-preserved : goal.loop-row-preserved
loop-row-preserved g c = (
  row_cleared c.args.height c.args.plane c.args.words.now c.requires.short c.loop-row.left c.take_first.new.self
      c.in-Some.row _ c.loop-row.words c.clear_row.new.words c.in-Some.ensures.some
      (taken_below c.loop-row.left c.take_first.new.self c.args.height c.in-Some.row c.in-Some.ensures.some
      c.loop-row.invariant.0.low)
      (rw c.loop-row.invariant.1 c.requires.plane) refl c.clear_row.ensures c.loop-row.invariant.0,
  c.clear_row.auto.words ∙ c.loop-row.invariant.1,
)

pub returns : goal.returns
returns g c =
    plane_cleared c.args.height c.args.plane c.args.words.now c.requires.short c.loop-row.left c.loop-row.words
    (c.in_default.ensures.none refl) c.loop-row.invariant.0
