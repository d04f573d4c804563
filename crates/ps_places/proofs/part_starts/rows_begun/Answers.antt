use Rattle.std.proofs.Common.{◌≡◌, ◌<◌, ℕ, Bool, List, [], length, refl, arith}
use Rattle.std.proofs.lemmas.List.{get_or_read_under}
use Rattle.ps_places.specs.PartStarts.{columns_on}
use Rattle.ps_places.proofs.FoundRows.{begun-all, begun-init, begun-more}
use Rattle.ps_places.proofs.part_starts.rows_begun.Goals as goal

pub loop-row-init : goal.loop-row-init
loop-row-init g c = begun-init c.args.rows c.none-begun.result c.args.starts.now c.none-begun.ensures

pub loop-row-preserved : goal.loop-row-preserved
loop-row-preserved g c =
    let row : ℕ = c.in-Some.row in
    let starts : List (List Bool) = c.args.starts.now in
    let inside : row < length starts = omega (arith, c.in-Some.ensures.within, c.requires) in
    let set : c.index-starts-row.result ≡ columns_on starts row =
    get_or_read_under starts row (length starts) c.index-starts-row.result [] c.index-starts-row.is inside refl in
    begun-more c.args.rows c.loop-row.begun c.with-begun.result c.loop-row.left c.take_first.new.self starts row
    c.is_empty.result c.in-Some.ensures.some c.with-begun.ensures
    (λ none. rw (← set) (c.is_empty.ensures.none none)) (λ some. rw (← set) (c.is_empty.ensures.some some))
    c.loop-row.invariant

pub returns : goal.returns
returns g c =
    begun-all c.args.rows c.loop-row.begun c.loop-row.left c.args.starts.now (c.in_default.ensures.none refl)
    c.loop-row.invariant
