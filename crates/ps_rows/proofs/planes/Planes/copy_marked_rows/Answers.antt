use Rattle.std.proofs.Common.{refl}
use Rattle.ps_board.proofs.Taken.{taken_below}
use Rattle.ps_rows.proofs.RowCopies.{all_rows_so_far, no_rows_so_far, rows_so_far}
use Rattle.ps_rows.proofs.planes.Planes.copy_marked_rows.Goals as goal

pub loop-row-init : goal.loop-row-init
loop-row-init g c =
    let p = c.args.self.now in
    record {
      so_far = no_rows_so_far p.height c.args.planes c.args.rows p.words.items c.args.other.now.words.items p.rows
          c.requires.rows;
      height = c.requires.height;
      count = c.requires.count;
    }

pub copy_marked_row-requires : goal.copy_marked_row-requires
copy_marked_row-requires g c =
    record {
      many = c.requires.many;
      row = taken_below c.loop-row.left c.take_first.new.self c.args.self.now.height c.in-Some.row
          c.in-Some.ensures.some c.loop-row.invariant.so_far.low;
      height = c.loop-row.invariant.height;
      here = c.requires.here;
      count = c.loop-row.invariant.count;
    }

pub loop-row-preserved : goal.loop-row-preserved
loop-row-preserved g c =
    let p = c.args.self.now in
    record {
      so_far = rows_so_far p.height c.args.planes c.args.rows p.words.items c.args.other.now.words.items p.rows
          c.loop-row.left c.take_first.new.self c.in-Some.row c.loop-row.other.words.items
          c.copy_marked_row.new.other.words.items c.in-Some.ensures.some c.loop-row.invariant.so_far
          c.copy_marked_row.ensures.row;
      height = c.copy_marked_row.ensures.height;
      count = c.copy_marked_row.ensures.count;
    }

pub returns-clause-words : goal.returns-clause-words
returns-clause-words g c =
    let p = c.args.self.now in
    all_rows_so_far p.height c.args.planes c.args.rows p.words.items c.args.other.now.words.items p.rows
    c.loop-row.left c.loop-row.other.words.items (c.in_default.ensures.none refl) c.loop-row.invariant.so_far
