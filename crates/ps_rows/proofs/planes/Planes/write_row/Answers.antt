use Rattle.std.proofs.Common.{◌≡◌, ◌+◌, ◌*◌, ◌<◌, ◌∙◌, ℕ, not, false, length, sym, ap, subst, arith, Bool, List}
use Rattle.std.specs.Prelude.{slice_set}
use Rattle.std.proofs.lemmas.List.{get_or_read}
use Rattle.ps_rows.specs.RowIndex.{AreRowsMarked}
use Rattle.ps_rows.proofs.Marked.{marked_row, plane_indexed, sets_row}
use Rattle.ps_rows.proofs.Sets.{true_by}
use Rattle.ps_rows.proofs.UsedPlanes.{uses_row}
use Rattle.ps_model.specs.declared.limits.TheConstants.{SIDE_LIMIT}
use Rattle.ps_board.specs.ColumnSets.{no_columns, set_columns, with_column}
use Rattle.ps_rows.specs.Planes.{row_of}
use Rattle.ps_rows.proofs.planes.Planes.write_row.Goals as goal

pub invariant_of-self-clause-marked : goal.invariant_of-self-clause-marked
invariant_of-self-clause-marked g c =
    let p = c.args.self.now in
    let plane : ℕ = c.args.plane in
    let counted : plane < p.index.len = plane_indexed p.index.len p.height plane p.words.len p.some_row p.whole
    c.requires.plane in
    let own : plane < length p.index.items = omega (arith, counted, p.index.ok.0) in
    let within : plane * p.height + c.args.row < length p.words.items =
    omega (arith, c.requires.plane, c.requires.row, p.words.ok.0) in
    let mark : c.with.result ≡ with_column (row_of p.index.items plane) c.args.row (not c.is_empty.result) =
    c.with.ensures ∙ ap (λ (w : List Bool). with_column w c.args.row (not c.is_empty.result))
    (get_or_read p.index.items _ _ own c.index.ensures no_columns) in
    let P : List Bool → Type 0 =
    λ made. AreRowsMarked p.index.len p.height (slice_set p.words.items (plane * p.height + c.args.row) c.args.word)
    (slice_set p.index.items plane made) in
    subst P (sym mark)
    (marked_row p.index.len p.height p.words.items p.index.items plane c.args.row c.args.word c.is_empty.result p.rows
    c.requires.row own within c.requires.set c.is_empty.ensures.none p.marked)

pub invariant_of-self-clause-sets : goal.invariant_of-self-clause-sets
invariant_of-self-clause-sets g c =
    let p = c.args.self.now in
    let within : c.args.plane * p.height + c.args.row < length p.words.items =
    omega (arith, c.requires.plane, c.requires.row, p.words.ok.0) in
    sets_row p.words.items (c.args.plane * p.height + c.args.row) c.args.word within c.requires.set p.sets

pub invariant_of-self-clause-noted : goal.invariant_of-self-clause-noted
invariant_of-self-clause-noted g c = λ many.
    let p = c.args.self.now in
    let plane : ℕ = c.args.plane in
    let counted : plane < p.index.len = plane_indexed p.index.len p.height plane p.words.len p.some_row p.whole
    c.requires.plane in
    let own : plane < length p.index.items = omega (arith, counted, p.index.ok.0) in
    let low : c.args.row < SIDE_LIMIT = omega (arith, c.requires.row, p.rows) in
    let mark : c.with.result ≡ with_column (row_of p.index.items plane) c.args.row (not c.is_empty.result) =
    c.with.ensures ∙ ap (λ (w : List Bool). with_column w c.args.row (not c.is_empty.result))
    (get_or_read p.index.items _ _ own c.index.ensures no_columns) in
    uses_row p.index.len plane c.args.row c.with.result c.is_empty.result p.index.items p.used.words.items own counted
    low mark
    (λ off. true_by c.is_empty.result (set_columns c.args.word) c.is_empty.ensures.some (c.requires.noted many off))
    (p.noted many)

pub invariant_of-self-clause-room : goal.invariant_of-self-clause-room
invariant_of-self-clause-room g c = c.args.self.now.room
