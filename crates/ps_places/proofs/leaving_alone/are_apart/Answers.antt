use Rattle.std.proofs.Common.{refl, rules}
use Rattle.ps_board.proofs.ColumnLaws.{none_in}
use Rattle.ps_places.proofs.AlonePlaces.{apart_more, no_start, not_apart}
use Rattle.ps_places.proofs.leaving_alone.are_apart.Goals as goal

pub loop-row-init : goal.loop-row-init
loop-row-init g c = λ row low out. no_start c.args.axis c.args.rows c.args.starts.now c.args.distance row out

pub loop-row-preserved : goal.loop-row-preserved
loop-row-preserved g c =
    apart_more c.args.axis c.args.rows c.loop-row.left c.take_first.new.self c.args.starts.now c.args.distance
    c.in-Some.row c.in-Some.ensures.some
    (not_apart c.args.axis c.args.rows c.args.starts.now c.args.distance c.in-Some.row c.kept_on_row.result
    c.starts_behind-others.result c.both.result
    c.kept_on_row.ensures c.starts_behind-others.ensures c.both.ensures (c.is_empty.ensures.none (search rules)))
    c.loop-row.invariant

pub returns : goal.returns
returns g c = λ e. record {
  at = λ row x low near on.
      (c.loop-row.invariant row low (none_in c.loop-row.left row (c.in_default.ensures.none refl) low)).at x near on;
}
