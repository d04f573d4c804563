use Rattle.std.proofs.Common.{◌≡◌, ◌∙◌, ◌<◌, ◌≤◌, ℕ, List, Bool, length, sym, ap₂, arith}
use Rattle.std.proofs.lemmas.List.{get_or_read}
use Rattle.ps_board.specs.ColumnSets.{either_columns, no_columns}
use Rattle.ps_rows.proofs.UsedPlanes.{all_joined, joined_more, none_joined}
use Rattle.ps_rows.proofs.used_planes.UsedPlanes.join.Goals as goal

pub loop-place-init : goal.loop-place-init
loop-place-init c = none_joined c.args.self.now.words.items c.args.other.now.words.items

pub loop-place-preserved : goal.loop-place-preserved
loop-place-preserved c =
    let before = c.args.self.now.words in
    let others = c.args.other.now.words in
    let place : ℕ = c.loop-place.place in
    let now : List (List Bool) = c.loop-place.self.words.items in
    let was = c.loop-place.invariant in
    let low : place < length before.items =
    omega (arith, c.loop-place-test.true, c.len-place-end.ensures, before.ok.0) in
    let there : place < length others.items = omega (arith, low, c.requires, before.ok.0, others.ok.0) in
    let here : place < length now = omega (arith, low, was.long) in
    let from : place ≤ place = omega arith in
    joined_more place before.items others.items now c.either.result low
    (c.either.ensures ∙ ap₂ either_columns
    (get_or_read now place _ here c.index.ensures no_columns ∙ was.left place from)
    (get_or_read others.items place _ there c.index-in-loop-place.ensures no_columns))
    was

pub returns-clause-kept : goal.returns-clause-kept
returns-clause-kept c = λ each off.
    let before = c.args.self.now.words in
    let others = c.args.other.now.words in
    let whole : length before.items ≤ c.loop-place.place =
    omega (arith, c.loop-place-test.false, c.len-place-end.ensures, before.ok.0) in
    (all_joined c.loop-place.place before.items others.items c.loop-place.self.words.items whole
    (sym others.ok.0 ∙ c.requires ∙ before.ok.0) c.loop-place.invariant each off).0

pub returns-clause-joined : goal.returns-clause-joined
returns-clause-joined c = λ each off.
    let before = c.args.self.now.words in
    let others = c.args.other.now.words in
    let whole : length before.items ≤ c.loop-place.place =
    omega (arith, c.loop-place-test.false, c.len-place-end.ensures, before.ok.0) in
    (all_joined c.loop-place.place before.items others.items c.loop-place.self.words.items whole
    (sym others.ok.0 ∙ c.requires ∙ before.ok.0) c.loop-place.invariant each off).1
