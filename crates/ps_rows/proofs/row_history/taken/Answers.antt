use Rattle.std.proofs.Common.{◌∙◌, ap₂, refl, ℕ, List, Bool}
use Rattle.ps_rows.specs.RowDifferences.{rows_changed}
use Rattle.ps_rows.proofs.RowHistories.{kept_same}
use Rattle.ps_rows.proofs.row_history.taken.Goals as goal

pub change_rows-requires-clause-objects : goal.change_rows-requires-clause-objects
change_rows-requires-clause-objects g c =
    let led = rw c.in-Rows.is at c.requires in
    rw (c.deref_mut.ensures.value, c.deref.ensures.value) led.objects

pub change_rows-requires-clause-motions : goal.change_rows-requires-clause-motions
change_rows-requires-clause-motions g c =
    let led = rw c.in-Rows.is at c.requires in
    rw (c.deref_mut.ensures.value, c.deref.ensures.value) led.motions

pub returns-in-Rows-clause-forth : goal.returns-in-Rows-clause-forth
returns-in-Rows-clause-forth g c =
    let b = c.args.board.value in
    let n = c.change_rows.new.self in
    let changed = rw (c.deref_mut.ensures.value, c.deref.ensures.value) at c.change_rows.ensures in
    rw c.in-Rows.is
    (kept_same b.members.table.items n.members.table.items b.width n.width b.planes.height n.planes.height b.layers
    n.layers (rows_changed b.planes.height b.planes.words.items c.in-Rows.rows.items) n.planes.words.items changed.table
    changed.width changed.height changed.layers changed.words)

pub returns-in-Rows-clause-back : goal.returns-in-Rows-clause-back
returns-in-Rows-clause-back g c = λ leads.
    let b = c.args.board.value in
    let n = c.change_rows.new.self in
    let changed = rw (c.deref_mut.ensures.value, c.deref.ensures.value) at c.change_rows.ensures in
    let back = rw c.in-Rows.is at leads in
    kept_same b.members.table.items n.members.table.items b.width n.width b.planes.height n.planes.height b.layers
    n.layers b.planes.words.items (rows_changed n.planes.height n.planes.words.items c.in-Rows.rows.items) changed.table
    changed.width changed.height changed.layers
    (ap₂ (λ (h : ℕ) (ws : List (List Bool)). rows_changed h ws c.in-Rows.rows.items) changed.height changed.words
    ∙ back)

pub returns-in-Whole-clause-forth : goal.returns-in-Whole-clause-forth
returns-in-Whole-clause-forth g c = rw c.in-Whole.is refl

pub returns-in-Whole-clause-back : goal.returns-in-Whole-clause-back
returns-in-Whole-clause-back g c = λ leads. refl
