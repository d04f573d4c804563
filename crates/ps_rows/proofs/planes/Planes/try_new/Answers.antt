use Rattle.std.proofs.Common.{◌∙◌, ◌*◌, ap, replicate, List, Bool, sym, subst}
use Rattle.ps_rows.specs.RowIndex.{AreRowsMarked}
use Rattle.ps_rows.proofs.Marked.{marked_none, sets_none, sets_same}
use Rattle.ps_board.specs.ColumnSets.{no_columns}
use Rattle.ps_rows.specs.UsedPlanes.{AreUsesNoted}
use Rattle.ps_rows.proofs.UsedPlanes.{uses_none}
use Rattle.ps_rows.proofs.planes.Planes.try_new.Goals as goal

pub invariant_of-result-clause-marked : goal.invariant_of-result-clause-marked
invariant_of-result-clause-marked g c =
    let n = c.args.count * c.args.height in
    let index = c.in_ok-index.index in
    let P : List (List Bool) → Type 0 = λ ws. AreRowsMarked index.len c.args.height ws index.items in
    subst P (sym (c.in_ok-words.ensures.items_if_clones_equal (λ copy same. same)
    ∙ ap (λ (set : List Bool). replicate n set) c.none.ensures))
    (marked_none index.len c.args.height n index.items)

pub invariant_of-result-clause-sets : goal.invariant_of-result-clause-sets
invariant_of-result-clause-sets g c =
    let n = c.args.count * c.args.height in
    sets_same (replicate n no_columns) c.in_ok-words.words.items
    (c.in_ok-words.ensures.items_if_clones_equal (λ copy same. same)
    ∙ ap (λ (set : List Bool). replicate n set) c.none.ensures) (sets_none n)

pub invariant_of-result-clause-noted : goal.invariant_of-result-clause-noted
invariant_of-result-clause-noted g c = λ many.
    let index = c.in_ok-index.index in
    let used = c.in_ok-used.used in
    let P : List (List Bool) → Type 0 = λ is. AreUsesNoted index.len is used.words.items in
    subst P (sym (c.in_ok-index.ensures.items_if_clones_equal (λ copy same. same)
    ∙ ap (λ (set : List Bool). replicate c.args.count set) c.none-2.ensures))
    (uses_none index.len c.args.count used.words.items)
