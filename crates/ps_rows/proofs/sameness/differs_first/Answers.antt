use Rattle.std.proofs.Common.{◌≡◌, ◌+◌, ◌*◌, ◌<◌, ◌∙◌, ℕ, ap}
use Rattle.ps_board.proofs.Taken.{below-init, taken_below}
use Rattle.ps_rows.specs.Planes.{row_of}
use Rattle.ps_rows.proofs.sameness.differs_first.Goals as goal

pub row-requires-clause-row : goal.row-requires-clause-row
row-requires-clause-row g c =
    let p = c.args.first.now in
    taken_below c.both-left.result c.take_first.new.self p.height c.in-Some.row c.in-Some.ensures.some
    (below-init c.either-rows.result c.below.result c.both-left.result p.height c.below.ensures c.both-left.ensures)

pub row-requires-2-clause-row : goal.row-requires-2-clause-row
row-requires-2-clause-row g c =
    let p = c.args.first.now in
    rw c.requires.height
    (taken_below c.both-left.result c.take_first.new.self p.height c.in-Some.row c.in-Some.ensures.some
    (below-init c.either-rows.result c.below.result c.both-left.result p.height c.below.ensures c.both-left.ensures))

pub returns : goal.returns
returns g c = λ same.
    let p = c.args.first.now in
    let o = c.args.second.now in
    let row : ℕ = c.in-Some.row in
    let under : row < p.height =
    taken_below c.both-left.result c.take_first.new.self p.height row c.in-Some.ensures.some
    (below-init c.either-rows.result c.below.result c.both-left.result p.height c.below.ensures c.both-left.ensures)
    in
    let there : c.row-2.result ≡ row_of o.words.items (c.args.plane * p.height + row) =
    c.row-2.ensures ∙ ap (λ (h : ℕ). row_of o.words.items (c.args.plane * h + row)) c.requires.height in
    let told = c.same_row.ensures.other (rw (c.row.ensures, there) (same row under)) in
    cc
