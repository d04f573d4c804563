use Rattle.std.proofs.Common.{◌≡◌, ◌+◌, ◌*◌, ◌<◌, ◌∙◌, ℕ, Bool, false, List, sym, ap, ap₂, subst}
use Rattle.ps_board.specs.ColumnSets.{column_at, either_columns, unlike_columns}
use Rattle.ps_board.proofs.Taken.{below-init, below-more, taken_below}
use Rattle.ps_rows.specs.Planes.{row_of}
use Rattle.ps_rows.specs.Sameness.{DifferOnlyOnRows}
use Rattle.ps_rows.proofs.RowsDiffering.{row_compared, row_unmarked}
use Rattle.ps_rows.proofs.planes.Planes.differing_rows.Goals as goal

pub returns-then-has_same_many : goal.returns-then-has_same_many
returns-then-has_same_many g c = rw c.none.ensures (c.has_same_many.ensures c.if-has_same_many.true)

pub loop-row-init : goal.loop-row-init
loop-row-init g c =
    let p = c.args.self.now in
    let o = c.args.other.now in
    let plane : ℕ = c.args.plane in
    let rows : List Bool = c.either-rows.result in
    record {
      low = below-init rows c.below.result c.both-left.result p.height c.below.ensures c.both-left.ensures;
      same = λ row under off.
          let none : column_at (either_columns (row_of p.index.items plane) (row_of o.index.items plane)) row ≡ false =
          ap (λ (word : List Bool). column_at word row)
          (sym (c.either-rows.ensures ∙ ap₂ either_columns c.rows_of.ensures c.rows_of-2.ensures)) ∙ off in
          row_unmarked p.index.len o.index.len p.height o.height plane p.words.len o.words.len row p.words.items
          o.words.items p.index.items o.index.items p.some_row p.rows c.requires.height
          p.whole o.whole c.requires.here c.requires.there p.marked o.marked none under;
    }

pub row-requires-clause-row : goal.row-requires-clause-row
row-requires-clause-row g c = taken_below c.loop-row.left c.take_first.new.self _ c.in-Some.row c.in-Some.ensures.some
    c.loop-row.invariant.low

pub row-requires-in-Some-clause-row : goal.row-requires-in-Some-clause-row
row-requires-in-Some-clause-row g c =
    rw c.requires.height (taken_below c.loop-row.left c.take_first.new.self _ c.in-Some.row c.in-Some.ensures.some
    c.loop-row.invariant.low)

pub loop-row-preserved : goal.loop-row-preserved
loop-row-preserved g c =
    let p = c.args.self.now in
    let o = c.args.other.now in
    let row : ℕ = c.in-Some.row in
    let was = c.loop-row.invariant in
    let under : row < p.height = taken_below c.loop-row.left c.take_first.new.self p.height row c.in-Some.ensures.some
    was.low in
    let there : c.row-in-Some.result ≡ row_of o.words.items (c.args.plane * p.height + row) =
    c.row-in-Some.ensures ∙ ap (λ (h : ℕ). row_of o.words.items (c.args.plane * h + row)) c.requires.height in
    let Same : List Bool → Type 0 =
    λ rows. DifferOnlyOnRows p.height c.args.plane p.words.items o.words.items rows in
    record {
      low = below-more c.loop-row.left c.take_first.new.self p.height row c.in-Some.ensures.some was.low;
      same = subst Same (sym c.with-rows.ensures)
          (row_compared p.height c.args.plane row c.loop-row.rows c.unlike-unlike.result c.is_empty.result
          p.words.items o.words.items under p.rows
          (p.sets (c.args.plane * p.height + row)) (o.sets (c.args.plane * p.height + row))
          (c.unlike-unlike.ensures ∙ ap₂ unlike_columns c.row.ensures there) c.is_empty.ensures.none was.same);
    }
