use Rattle.std.proofs.Common.{◌≡◌, ◌+◌, ◌*◌, ◌<◌, ◌∙◌, ℕ, sym, ap, ap₂, refl, Bool, true, false, List, arith}
use Rattle.ps_board.specs.ColumnSets.{column_at, either_columns}
use Rattle.ps_board.proofs.Taken.{below-init, below-more, passed-all, passed-init, passed-more, taken_below}
use Rattle.ps_rows.specs.Planes.{row_of}
use Rattle.ps_rows.specs.Sameness.{AreSameRows}
use Rattle.ps_rows.proofs.RowCopies.{not_wanted}
use Rattle.ps_rows.proofs.RowsDiffering.{row_unmarked}
use Rattle.ps_rows.proofs.sameness.same_plane_on.Goals as goal

pub loop-row-init : goal.loop-row-init
loop-row-init g c =
    let p = c.args.first.now in
    let o = c.args.second.now in
    let plane : ℕ = c.args.plane in
    let Same : ℕ → Type 0 = λ row. column_at c.args.rows row ≡ true →
    AreSameRows c.args.width (row_of p.words.items (plane * p.height + row))
    (row_of o.words.items (plane * p.height + row)) in
    record {
      low = below-init c.both-wanted.result c.below.result c.both-left.result p.height c.below.ensures
          c.both-left.ensures;
      passed = passed-init Same c.both-wanted.result c.below.result c.both-left.result p.height p.rows c.below.ensures
          c.both-left.ensures
          (λ row under off on x across.
          let clear = not_wanted c.args.rows c.either-marks.result c.both-wanted.result row
          (omega (arith, under, p.rows)) c.both-wanted.ensures off on in
          let none : column_at (either_columns (row_of p.index.items plane) (row_of o.index.items plane)) row ≡ false =
          ap (λ (word : List Bool). column_at word row)
          (sym (c.either-marks.ensures ∙ ap₂ either_columns c.rows_of.ensures c.rows_of-2.ensures)) ∙ clear in
          ap (λ (word : List Bool). column_at word x)
          (row_unmarked p.index.len o.index.len p.height o.height plane p.words.len o.words.len row p.words.items
          o.words.items p.index.items o.index.items p.some_row p.rows c.requires.height
          p.whole o.whole c.requires.first c.requires.second p.marked o.marked none under));
    }

pub row-requires-clause-row : goal.row-requires-clause-row
row-requires-clause-row g c = taken_below c.loop-row.left c.take_first.new.self _ c.in-Some.row c.in-Some.ensures.some
    c.loop-row.invariant.low

pub row-requires-in-Some-clause-row : goal.row-requires-in-Some-clause-row
row-requires-in-Some-clause-row g c =
    rw c.requires.height (taken_below c.loop-row.left c.take_first.new.self _ c.in-Some.row c.in-Some.ensures.some
    c.loop-row.invariant.low)

pub returns-then-not-same_row-clause-other : goal.returns-then-not-same_row-clause-other
returns-then-not-same_row-clause-other g c = λ same.
    let p = c.args.first.now in
    let o = c.args.second.now in
    let row : ℕ = c.in-Some.row in
    let under : row < p.height = taken_below c.loop-row.left c.take_first.new.self p.height row c.in-Some.ensures.some
    c.loop-row.invariant.low in
    let there : c.row-in-Some.result ≡ row_of o.words.items (c.args.plane * p.height + row) =
    c.row-in-Some.ensures ∙ ap (λ (h : ℕ). row_of o.words.items (c.args.plane * h + row)) c.requires.height in
    let told = c.same_row.ensures.other (rw (c.row.ensures, there) (same row under)) in
    cc

pub loop-row-preserved : goal.loop-row-preserved
loop-row-preserved g c =
    let p = c.args.first.now in
    let o = c.args.second.now in
    let row : ℕ = c.in-Some.row in
    let was = c.loop-row.invariant in
    let there : c.row-in-Some.result ≡ row_of o.words.items (c.args.plane * p.height + row) =
    c.row-in-Some.ensures ∙ ap (λ (h : ℕ). row_of o.words.items (c.args.plane * h + row)) c.requires.height in
    let Same : ℕ → Type 0 = λ row. column_at c.args.rows row ≡ true →
    AreSameRows c.args.width (row_of p.words.items (c.args.plane * p.height + row))
    (row_of o.words.items (c.args.plane * p.height + row)) in
    let same : Same row = λ on. rw (sym c.row.ensures, sym there) (c.same_row.ensures.same c.if-not-same_row.false) in
    record {
      low = below-more c.loop-row.left c.take_first.new.self p.height row c.in-Some.ensures.some was.low;
      passed = passed-more Same c.loop-row.left c.take_first.new.self p.height row p.rows c.in-Some.ensures.some same
          was.passed;
    }

pub returns-clause-same : goal.returns-clause-same
returns-clause-same g c = λ told row under on.
    let p = c.args.first.now in
    let o = c.args.second.now in
    let Same : ℕ → Type 0 = λ row. column_at c.args.rows row ≡ true →
    AreSameRows c.args.width (row_of p.words.items (c.args.plane * p.height + row))
    (row_of o.words.items (c.args.plane * p.height + row)) in
    passed-all Same c.loop-row.left p.height row p.rows (c.in_default.ensures.none refl) c.loop-row.invariant.passed
    under on
