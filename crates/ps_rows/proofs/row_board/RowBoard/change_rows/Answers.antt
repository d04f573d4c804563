use Rattle.std.proofs.Common.{◌≡◌, ◌∙◌, ℕ, false, length, sym, ap}
use Rattle.std.specs.Prelude.{nat_le}
use Rattle.std.specs.List.{list_any}
use Rattle.std.proofs.lemmas.Bool.{or_parts}
use Rattle.ps_board.proofs.AllRows.{none_outside}
use Rattle.ps_rows.proofs.RowDifferences.{rows_rest}
use Rattle.ps_rows.proofs.row_board.RowBoard.change_rows.Goals as goal

pub invariant_of-self-clause-rest : goal.invariant_of-self-clause-rest
invariant_of-self-clause-rest g c = λ still.
    let b = c.args.self.now in
    let first : ℕ = length b.members.table.items in
    let parts = or_parts b.may_move c.reach.result still in
    let few : list_any (λ row. nat_le first row.plane) c.args.rows.now ≡ false =
    ap (λ (plane : ℕ). list_any (λ row. nat_le plane row.plane) c.args.rows.now) (sym c.count.ensures.value)
    ∙ sym c.reach.ensures ∙ parts.1 in
    rw (c.change_rows.ensures.words, c.change_rows.ensures.height)
    (rows_rest b.planes.height first b.planes.words.items c.args.rows.now few (b.rest parts.0))

pub invariant_of-self-clause-objects : goal.invariant_of-self-clause-objects
invariant_of-self-clause-objects g c =
    rw (c.change_rows.ensures.words, c.change_rows.ensures.height) c.requires.objects

pub invariant_of-self-clause-motions : goal.invariant_of-self-clause-motions
invariant_of-self-clause-motions g c =
    rw (c.change_rows.ensures.words, c.change_rows.ensures.height) c.requires.motions

pub invariant_of-self-clause-noted : goal.invariant_of-self-clause-noted
invariant_of-self-clause-noted g c =
    let b = c.args.self.now in
    rw c.change_rows.ensures.height (λ plane below row under off.
    absurd (none_outside b.planes.height c.below-self.result b.planes.rows c.below-self.ensures row under off))
