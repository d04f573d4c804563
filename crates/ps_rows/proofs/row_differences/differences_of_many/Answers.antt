use Rattle.std.proofs.Common.{◌≡◌, ◌∙◌, ◌*◌, ◌≤◌, ℕ, Bool, length, sym, ap, subst, List}
use Rattle.ps_board.proofs.Taken.{below-init}
use Rattle.ps_rows.specs.MixedPlanes.{mixed_planes}
use Rattle.ps_rows.specs.RowDifferences.{Difference, rows_changed}
use Rattle.ps_rows.proofs.MixedPlanes.{length-mixed, mixed_same, mixed_within}
use Rattle.ps_rows.proofs.RowDifferences.{all_back, all_forth, both_none, both_reach}
use Rattle.ps_rows.proofs.Passed.{own_order}
use Rattle.ps_rows.proofs.row_differences.differences_of_many.Goals as goal

pub returns-clause-forth : goal.returns-clause-forth
returns-clause-forth g c =
    let p = c.args.first.now in
    let o = c.args.second.now in
    let found : List Difference = c.add_marked.new.found.items in
    let within : List Bool = c.both-within.result in
    let mixed : List (List Bool) = mixed_planes p.height within p.words.items o.words.items in
    let whole : length p.words.items ≤ length p.words.items = own_order (length p.words.items) in
    let N : ℕ → Type 0 = λ n. c.args.planes * p.height ≤ n in
    let enough : c.args.planes * p.height ≤ length p.words.items = subst N p.words.ok.0 c.requires.planes in
    let long : length o.words.items ≡ length p.words.items = sym o.words.ok.0 ∙ c.requires.count ∙ p.words.ok.0 in
    let all : mixed ≡ mixed_planes p.height c.args.rows p.words.items o.words.items =
    mixed_within p.height c.args.rows p.words.items o.words.items c.below-all.result within p.some_row p.rows
    c.below-all.ensures c.both-within.ensures in
    all_forth p.height (length p.words.items) p.words.items mixed found whole
    (length-mixed p.height within p.words.items o.words.items)
    (both_reach p.height (c.args.planes * p.height) (length p.words.items) p.words.items mixed
    found enough
    (λ place from below. mixed_same p.height within p.words.items o.words.items long place (c.requires.rest place from))
    (c.in_ok-enough.ensures c.if-not-enough.false))
    ∙ all

pub returns-clause-back : goal.returns-clause-back
returns-clause-back g c =
    let p = c.args.first.now in
    let o = c.args.second.now in
    let found : List Difference = c.add_marked.new.found.items in
    let within : List Bool = c.both-within.result in
    let mixed : List (List Bool) = mixed_planes p.height within p.words.items o.words.items in
    let whole : length p.words.items ≤ length p.words.items = own_order (length p.words.items) in
    let N : ℕ → Type 0 = λ n. c.args.planes * p.height ≤ n in
    let enough : c.args.planes * p.height ≤ length p.words.items = subst N p.words.ok.0 c.requires.planes in
    let long : length o.words.items ≡ length p.words.items = sym o.words.ok.0 ∙ c.requires.count ∙ p.words.ok.0 in
    let all : mixed ≡ mixed_planes p.height c.args.rows p.words.items o.words.items =
    mixed_within p.height c.args.rows p.words.items o.words.items c.below-all.result within p.some_row p.rows
    c.below-all.ensures c.both-within.ensures in
    ap (λ (words : List (List Bool)). rows_changed p.height words found) (sym all)
    ∙ all_back p.height (length p.words.items) p.words.items mixed found whole
    (length-mixed p.height within p.words.items o.words.items)
    (both_reach p.height (c.args.planes * p.height) (length p.words.items) p.words.items mixed
    found enough
    (λ place from below. mixed_same p.height within p.words.items o.words.items long place (c.requires.rest place from))
    (c.in_ok-enough.ensures c.if-not-enough.false))

pub add_marked-requires-clause-rows : goal.add_marked-requires-clause-rows
add_marked-requires-clause-rows g c =
    (below-init c.args.rows c.below-all.result c.both-within.result c.args.first.now.height c.below-all.ensures
    c.both-within.ensures).at

pub add_marked-requires-clause-before : goal.add_marked-requires-clause-before
add_marked-requires-clause-before g c =
    let p = c.args.first.now in
    rw c.new-found.ensures.items (both_none p.height p.words.items
    (mixed_planes p.height c.both-within.result p.words.items c.args.second.now.words.items))
