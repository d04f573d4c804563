use Rattle.std.proofs.Common.{◌+◌, ◌*◌, ◌<◌, ◌≤◌, ◌∙◌, ℕ, length, sym, ap, ap₂, subst, arith}
use Rattle.std.proofs.lemmas.List.{get_or_read}
use Rattle.ps_board.specs.ColumnSets.{either_columns, no_columns, set_columns}
use Rattle.ps_rows.proofs.Marked.{plane_indexed}
use Rattle.ps_rows.proofs.RowsDiffering.{neither_marked}
use Rattle.ps_rows.proofs.planes.Planes.is_unmarked_plane.Goals as goal

pub index-requires : goal.index-requires
index-requires g c =
    let p = c.args.self.now in
    plane_indexed p.index.len p.height c.args.plane p.words.len p.some_row p.whole c.requires.here

pub returns : goal.returns
returns g c = λ yes.
    let p = c.args.self.now in
    let o = c.args.other.now in
    let plane : ℕ = c.args.plane in
    let E : ℕ → Type 0 = λ h. (plane + 1) * h ≤ o.words.len in
    let counted : plane < p.index.len = plane_indexed p.index.len p.height plane p.words.len p.some_row p.whole
    c.requires.here in
    let also : plane < o.index.len = plane_indexed o.index.len o.height plane o.words.len o.some_row o.whole
    (subst E (sym c.requires.height) c.requires.there) in
    let own : plane < length p.index.items = omega (arith, counted, p.index.ok.0) in
    let others : plane < length o.index.items = omega (arith, also, o.index.ok.0) in
    neither_marked p.index.len o.index.len p.height o.height plane p.words.len o.words.len p.words.items
    o.words.items p.index.items o.index.items p.some_row p.rows c.requires.height p.whole o.whole
    c.requires.here c.requires.there p.marked o.marked
    (ap set_columns (sym (c.either.ensures ∙ ap₂ either_columns
    (get_or_read p.index.items _ _ own c.index.ensures no_columns)
    (get_or_read o.index.items _ _ others c.index-2.ensures no_columns)))
    ∙ c.is_empty.ensures.none yes)
