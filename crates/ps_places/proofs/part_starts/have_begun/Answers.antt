use Rattle.std.proofs.Common.{◌≡◌, ◌<◌, ℕ, Bool, List, [], length, refl, arith}
use Rattle.std.proofs.lemmas.List.{get_or_read_under}
use Rattle.ps_places.specs.PartStarts.{columns_on}
use Rattle.ps_places.proofs.HaveBegun.{but-all, but-init, but-more, but-one}
use Rattle.ps_places.proofs.part_starts.have_begun.Goals as goal

pub loop-row-init : goal.loop-row-init
loop-row-init g c = but-init c.args.rows c.args.starts.now

pub loop-row-preserved : goal.loop-row-preserved
loop-row-preserved g c =
    let row : ℕ = c.in-Some.row in
    let starts : List (List Bool) = c.args.starts.now in
    let inside : row < length starts = omega (arith, c.in-Some.ensures.within, c.requires) in
    let set : c.index-starts-row.result ≡ columns_on starts row =
    get_or_read_under starts row (length starts) c.index-starts-row.result [] c.index-starts-row.is inside refl in
    but-more c.args.rows starts c.loop-row.left c.take_first.new.self row c.in-Some.ensures.some
    (rw (← set) (c.is_empty.ensures.none c.if-not-is_empty.false)) c.loop-row.invariant

pub returns-then-not-is_empty : goal.returns-then-not-is_empty
returns-then-not-is_empty g c =
    let row : ℕ = c.in-Some.row in
    let starts : List (List Bool) = c.args.starts.now in
    let inside : row < length starts = omega (arith, c.in-Some.ensures.within, c.requires) in
    let set : c.index-starts-row.result ≡ columns_on starts row =
    get_or_read_under starts row (length starts) c.index-starts-row.result [] c.index-starts-row.is inside refl in
    but-one c.args.rows starts c.loop-row.left c.take_first.new.self row c.in-Some.ensures.some
    (rw (← set) (c.is_empty.ensures.some c.if-not-is_empty.true)) c.loop-row.invariant

pub returns : goal.returns
returns g c = but-all c.args.rows c.args.starts.now c.loop-row.left (c.in_default.ensures.none refl) c.loop-row.invariant
