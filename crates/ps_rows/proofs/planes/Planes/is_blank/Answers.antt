use Rattle.std.proofs.Common.{◌∙◌, ◌<◌, ℕ, length, sym, ap, subst}
use Rattle.std.proofs.lemmas.Bool.{ltb-true}
use Rattle.std.proofs.lemmas.List.{get_or_read}
use Rattle.ps_board.specs.ColumnSets.{no_columns, set_columns}
use Rattle.ps_board.proofs.ColumnLaws.{set_columns-none}
use Rattle.ps_rows.proofs.UnmarkedRows.{row_beyond}
use Rattle.ps_rows.proofs.planes.Planes.is_blank.Goals as goal

pub returns-then-not-has_plane : goal.returns-then-not-has_plane
returns-then-not-has_plane g c = λ yes.
    let p = c.args.self.now in
    ap set_columns
    (row_beyond p.index.items p.index.len c.args.plane p.index.ok.0 (sym c.has_plane.ensures ∙ c.if-not-has_plane.true))
    ∙ set_columns-none

pub index-requires : goal.index-requires
index-requires g c =
    let p = c.args.self.now in
    ltb-true c.args.plane p.index.len (sym c.has_plane.ensures ∙ c.if-not-has_plane.false)

pub returns : goal.returns
returns g c = λ yes.
    let p = c.args.self.now in
    let low : c.args.plane < p.index.len =
    ltb-true c.args.plane p.index.len (sym c.has_plane.ensures ∙ c.if-not-has_plane.false) in
    let N : ℕ → Type 0 = λ n. c.args.plane < n in
    let own : c.args.plane < length p.index.items = subst N p.index.ok.0 low in
    ap set_columns (sym (get_or_read p.index.items _ _ own c.index.ensures no_columns)) ∙ c.is_empty.ensures.none yes
