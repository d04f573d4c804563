use Rattle.std.proofs.Common.{◌≡◌, ◌<◌, ◌≤◌, ◌∙◌, ℕ, List, length, get_or, ap, sym, subst, arith, Bool}
use Rattle.std.specs.List.{list_any}
use Rattle.std.specs.Prelude.{nat_eq, true}
use Rattle.std.proofs.lemmas.List.{take_all}
use Rattle.std.proofs.lemmas.Option.{slice_get_within}
use Rattle.ps_rows.proofs.LayerChanges.{has_at, standing_is, standing_more}
use Rattle.ps_rows.proofs.Marks.{listed_at}
use Rattle.ps_rows.proofs.MemberRanges.{listed_member}
use Rattle.ps_board.specs.ColumnSets.{column_at}
use Rattle.ps_rows.proofs.Sets.{none_at}
use Rattle.ps_model.specs.declared.limits.TheConstants.{SIDE_LIMIT}
use Rattle.ps_rows.proofs.row_board.RowBoard.standing_row.Goals as goal

pub row-requires-clause-plane : goal.row-requires-clause-plane
row-requires-clause-plane g c =
    let table : List ℕ = c.args.self.now.members.table.items in
    let plane : ℕ = get_or c.of-plane-items.result.now c.loop-plane.plane-index 0 in
    let among : list_any (nat_eq plane) c.of-plane-items.result.now ≡ true =
    listed_at c.of-plane-items.result.now c.loop-plane.plane-index 0 c.loop-plane-test.true in
    let below : plane < length table =
    slice_get_within table plane c.args.layer (listed_member table c.args.layer plane
    (ap (list_any (nat_eq plane)) (sym c.of-plane-items.ensures) ∙ among)) in
    omega arith

pub loop-plane-init : goal.loop-plane-init
loop-plane-init g c = λ x low. ap (λ (set : List Bool). column_at set x) c.none-word.ensures ∙ none_at x

pub loop-plane-preserved : goal.loop-plane-preserved
loop-plane-preserved g c =
    rw c.either-word.ensures
    (standing_more c.args.self.now.planes.height c.args.row c.args.self.now.planes.words.items
    c.of-plane-items.result.now c.loop-plane.plane-index c.loop-plane.word c.row.result c.loop-plane-test.true
    c.row.ensures c.loop-plane.invariant)

pub returns : goal.returns
returns g c =
    let b = c.args.self.now in
    let end : length c.of-plane-items.result.now ≤ c.loop-plane.plane-index = omega arith in
    let P : List ℕ → Type 0 = λ planes. (x : ℕ) → x < SIDE_LIMIT →
    column_at c.loop-plane.word x ≡ list_any (has_at b.planes.height c.args.row b.planes.words.items x) planes in
    standing_is b.members.table.items b.width b.planes.height b.layers b.planes.words.items c.args.layer c.args.row
    b.planes.some_row b.columns c.requires.row c.requires.layer c.loop-plane.word
    (subst P (take_all c.loop-plane.plane-index c.of-plane-items.result.now end
    ∙ c.of-plane-items.ensures) c.loop-plane.invariant)
