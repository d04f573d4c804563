use Rattle.std.proofs.Common.{◌≡◌, ◌+◌, ◌*◌, ◌<◌, ◌∙◌, ℕ, Bool, true, List, length, sym, ap, ap₂, arith}
use Rattle.std.proofs.Common.{refl, rules}
use Rattle.ps_board.specs.ColumnSets.{set_columns, unlike_columns}
use Rattle.ps_board.proofs.Taken.{taken_below}
use Rattle.ps_rows.specs.Planes.{row_of}
use Rattle.ps_rows.specs.RowDifferences.{LeadBothWays}
use Rattle.ps_rows.proofs.RowDifferences.{both_more, both_same}
use Rattle.ps_rows.specs.MixedPlanes.{mixed_planes}
use Rattle.ps_rows.proofs.MixedPlanes.{length-mixed, mixed_none, mixed_on, mixed_same, mixed_sets}
use Rattle.ps_rows.proofs.RowCopies.{in_both, wanted-first, wanted-more}
use Rattle.ps_rows.proofs.RowsAdded.{added_all, added_on, row_reached}
use Rattle.ps_rows.proofs.Sets.{same_by_unlike, same_set}
use Rattle.ps_rows.proofs.row_differences.add_rows.Goals as goal

pub loop-row-init : goal.loop-row-init
loop-row-init g c = (
  0,
  omega arith,
  mixed_none c.args.height c.args.rows c.args.words.now c.args.others.now c.requires.long c.args.plane c.args.marked
      c.both-left.result c.args.found.now.items c.requires.short c.both-left.ensures c.requires.rows c.requires.marked
      c.requires.before,
  λ row low on. (in_both c.args.rows c.args.marked c.both-left.result row low c.both-left.ensures on).0,
)

pub plane_row-here-requires-clause-row : goal.plane_row-here-requires-clause-row
plane_row-here-requires-clause-row g c =
    taken_below c.loop-row.left c.take_first.new.self c.args.height c.in-Some.row c.in-Some.ensures.some
    c.loop-row.invariant.2.low

pub plane_row-requires-clause-row : goal.plane_row-requires-clause-row
plane_row-requires-clause-row g c =
    taken_below c.loop-row.left c.take_first.new.self c.args.height c.in-Some.row c.in-Some.ensures.some
    c.loop-row.invariant.2.low

pub loop-row-preserved-in-Continue-1 : goal.loop-row-preserved-in-Continue-1
loop-row-preserved-in-Continue-1 g c =
    let height : ℕ = c.args.height in
    let words : List (List Bool) = c.args.words.now in
    let others : List (List Bool) = c.args.others.now in
    let row : ℕ = c.in-Some.row in
    let place : ℕ = c.args.plane * height + row in
    let was = c.loop-row.invariant.2 in
    let under : row < height =
    taken_below c.loop-row.left c.take_first.new.self height row c.in-Some.ensures.some was.low in
    let mixed : List (List Bool) = mixed_planes height c.args.rows words others in
    let wanted = c.loop-row.invariant.3 in
    let there : row_of others place ≡ row_of mixed place =
    sym (mixed_on height c.args.rows words others c.requires.long c.args.plane row under
    (wanted-first c.args.rows c.loop-row.left c.take_first.new.self row c.in-Some.ensures.some wanted)) in
    let within : place < length words = omega (arith, under, c.requires.plane) in
    let lead : LeadBothWays height (place + 1) words mixed c.push.new.self.items =
    rw c.in_ok-push.ensures.items
    (both_more height words mixed c.loop-row.found.items _ place refl under within
    (length-mixed height c.args.rows words others)
    (c.requires.sets place)
    (mixed_sets height c.args.rows words others c.requires.long c.requires.sets c.requires.other_sets place)
    (c.unlike-columns.ensures ∙ ap₂ unlike_columns c.plane_row-here.ensures (c.plane_row.ensures ∙ there))
    (row_reached height c.args.plane words mixed c.loop-row.found.items c.loop-row.left
    c.take_first.new.self c.loop-row.invariant.0 row c.in-Some.ensures.some was)) in (
      row + 1,
      omega (arith, under),
      added_on height c.args.plane words mixed c.loop-row.found.items c.loop-row.left
          c.take_first.new.self c.loop-row.invariant.0 row c.in-Some.ensures.some was c.push.new.self.items
          c.requires.short lead,
      wanted-more c.args.rows c.loop-row.left c.take_first.new.self row c.in-Some.ensures.some wanted,
    )

pub loop-row-preserved : goal.loop-row-preserved
loop-row-preserved g c =
    let height : ℕ = c.args.height in
    let words : List (List Bool) = c.args.words.now in
    let others : List (List Bool) = c.args.others.now in
    let row : ℕ = c.in-Some.row in
    let place : ℕ = c.args.plane * height + row in
    let here : List Bool = row_of words place in
    let other : List Bool = row_of others place in
    let was = c.loop-row.invariant.2 in
    let under : row < height =
    taken_below c.loop-row.left c.take_first.new.self height row c.in-Some.ensures.some was.low in
    let mixed : List (List Bool) = mixed_planes height c.args.rows words others in
    let unlike : c.unlike-columns.result ≡ unlike_columns here other =
    c.unlike-columns.ensures ∙ ap₂ unlike_columns c.plane_row-here.ensures c.plane_row.ensures in
    let empty : c.is_empty.result ≡ true = search rules in
    let same : here ≡ other =
    same_set here other (c.requires.sets place) (c.requires.other_sets place)
    (same_by_unlike here other (ap set_columns (sym unlike) ∙ c.is_empty.ensures.none empty)) in (
      row + 1,
      omega (arith, under),
      added_on height c.args.plane words mixed c.loop-row.found.items c.loop-row.left
          c.take_first.new.self c.loop-row.invariant.0 row c.in-Some.ensures.some was c.loop-row.found.items
          c.requires.short
          (both_same height place words mixed c.loop-row.found.items
          (mixed_same height c.args.rows words others c.requires.long place same)
          (row_reached height c.args.plane words mixed c.loop-row.found.items c.loop-row.left
          c.take_first.new.self c.loop-row.invariant.0 row c.in-Some.ensures.some was)),
      wanted-more c.args.rows c.loop-row.left c.take_first.new.self row c.in-Some.ensures.some c.loop-row.invariant.3,
    )

pub returns : goal.returns
returns g c =
    added_all c.args.height c.args.plane c.args.words.now
    (mixed_planes c.args.height c.args.rows c.args.words.now c.args.others.now) c.loop-row.found.items
    c.loop-row.left c.loop-row.invariant.0 c.requires.short c.loop-row.invariant.1 (c.in_default.ensures.none refl)
    c.loop-row.invariant.2
