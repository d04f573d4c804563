use Rattle.std.proofs.Common.{◌≡◌, ◌+◌, ◌*◌, ◌<◌, ◌≤◌, ◌∙◌, ℕ, Bool, false, List, length, sym, ap, ap₂, subst}
use Rattle.std.specs.Prelude.{OnOk}
use Rattle.ps_board.specs.ColumnSets.{column_at, either_columns}
use Rattle.ps_rows.specs.MixedPlanes.{mixed_planes}
use Rattle.ps_rows.specs.Planes.{AreSets, row_of}
use Rattle.ps_rows.specs.RowDifferences.{LeadBothWays}
use Rattle.ps_rows.proofs.MixedPlanes.{mixed_plane}
use Rattle.ps_rows.proofs.RowDifferences.{both_plane, read_of}
use Rattle.ps_rows.proofs.RowsDiffering.{row_unmarked}
use Rattle.ps_rows.proofs.row_differences.add_differences.Goals as goal

pub returns-then-has_same_many : goal.returns-then-has_same_many
returns-then-has_same_many g c =
    let p = c.args.first.now in
    let o = c.args.second.now in
    let long : length o.words.items ≡ length p.words.items = sym o.words.ok.0 ∙ c.requires.count ∙ p.words.ok.0 in
    both_plane p.height c.args.plane p.words.items (mixed_planes p.height c.args.rows p.words.items o.words.items)
    c.args.found.now.items
    (mixed_plane p.height c.args.rows p.words.items o.words.items long c.args.plane
    (c.has_same_many.ensures c.if-has_same_many.true)) c.requires.before

pub add_rows-requires : goal.add_rows-requires
add_rows-requires g c =
    let p = c.args.first.now in
    let o = c.args.second.now in
    let plane : ℕ = c.args.plane in
    let mine : List Bool = row_of p.index.items plane in
    let theirs : List Bool = row_of o.index.items plane in
    let words : List (List Bool) = c.as_slice-words.result.now in
    let others : List (List Bool) = c.as_slice-others.result.now in
    let marked : List Bool = c.either-marked.result in
    let enough : (plane + 1) * p.height ≤ p.words.len = c.requires.plane in
    let E : ℕ → Type 0 = λ long. (plane + 1) * p.height ≤ long in
    let there : (plane + 1) * p.height ≤ o.words.len = subst E (sym c.requires.count) enough in
    let S : List (List Bool) → Type 0 = λ ws. AreSets ws in
    let M : List (List Bool) → List (List Bool) → Type 0 = λ ws os.
    (row : ℕ) → row < p.height → column_at marked row ≡ false →
    row_of ws (plane * p.height + row) ≡ row_of os (plane * p.height + row) in
    let L : List (List Bool) → List (List Bool) → Type 0 = λ ws os.
    LeadBothWays p.height (plane * p.height) ws (mixed_planes p.height c.args.rows ws os) c.args.found.now.items in
    record {
      short = p.rows;
      long = c.as_slice-others.ensures.len ∙ c.requires.count ∙ sym c.as_slice-words.ensures.len;
      plane = subst E (sym c.as_slice-words.ensures.len) enough;
      sets = subst S (sym c.as_slice-words.ensures.value) p.sets;
      other_sets = subst S (sym c.as_slice-others.ensures.value) o.sets;
      rows = c.requires.rows;
      marked = read_of M p.words.items o.words.items words others (sym c.as_slice-words.ensures.value)
          (sym c.as_slice-others.ensures.value)
          (λ row under off.
          let none : column_at (either_columns mine theirs) row ≡ false =
          ap (λ (word : List Bool). column_at word row)
          (sym (c.either-marked.ensures ∙ ap₂ either_columns c.rows_of.ensures c.rows_of-2.ensures)) ∙ off in
          row_unmarked p.index.len o.index.len p.height o.height plane p.words.len o.words.len row p.words.items
          o.words.items p.index.items o.index.items p.some_row p.rows c.requires.height p.whole o.whole
          enough there p.marked o.marked none under);
      before = read_of L p.words.items o.words.items words others (sym c.as_slice-words.ensures.value)
          (sym c.as_slice-others.ensures.value) c.requires.before;
    }

pub returns : goal.returns
returns g c =
    let p = c.args.first.now in
    let o = c.args.second.now in
    let L : List (List Bool) → List (List Bool) → Type 0 = λ ws os. OnOk c.add_rows.result
    (LeadBothWays p.height ((c.args.plane + 1) * p.height) ws (mixed_planes p.height c.args.rows ws os)
    c.add_rows.new.found.items) in
    read_of L c.as_slice-words.result.now c.as_slice-others.result.now p.words.items o.words.items
    c.as_slice-words.ensures.value c.as_slice-others.ensures.value c.add_rows.ensures
