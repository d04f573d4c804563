use Rattle.std.proofs.Common.{◌∙◌, refl}
use Rattle.ps_board.proofs.Taken.{taken_below}
use Rattle.ps_rows.proofs.RowCopies.{all_rows_so_far, no_rows_so_far, rows_so_far}
use Rattle.ps_rows.proofs.planes.copy_row_sets.Goals as goal

pub loop-row-init : goal.loop-row-init
loop-row-init g c = (
  no_rows_so_far c.args.height c.args.planes c.args.rows c.args.words.now c.args.others.now c.requires.short
      c.requires.rows,
  refl,
)

pub copy_row-requires : goal.copy_row-requires
copy_row-requires g c =
    record {
      row = taken_below c.loop-row.left c.take_first.new.self c.args.height c.in-Some.row c.in-Some.ensures.some
          c.loop-row.invariant.0.low;
      here = c.requires.here;
      there = rw c.loop-row.invariant.1 c.requires.there;
    }

pub loop-row-preserved : goal.loop-row-preserved
loop-row-preserved g c = (
  rows_so_far c.args.height c.args.planes c.args.rows c.args.words.now c.args.others.now c.requires.short
      c.loop-row.left c.take_first.new.self c.in-Some.row c.loop-row.others c.copy_row.new.others
      c.in-Some.ensures.some c.loop-row.invariant.0 c.copy_row.ensures.row,
  c.copy_row.ensures.long ∙ c.loop-row.invariant.1,
)

pub returns-clause-words : goal.returns-clause-words
returns-clause-words g c =
    all_rows_so_far c.args.height c.args.planes c.args.rows c.args.words.now c.args.others.now c.requires.short
    c.loop-row.left c.loop-row.others (c.in_default.ensures.none refl) c.loop-row.invariant.0
