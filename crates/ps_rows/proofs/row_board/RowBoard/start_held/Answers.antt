use Rattle.std.proofs.Common.{◌∙◌, ℕ, ◌+◌, ◌<◌, List, Bool, [], length, replicate, subst, sym, ap}
use Rattle.std.specs.Prelude.{slice_index_or}
use Rattle.std.proofs.lemmas.List.{get_or-replicate, length-replicate}
use Rattle.ps_model.specs.board.Grid.{Grid}
use Rattle.ps_board.specs.ColumnSets.{both_columns, no_columns}
use Rattle.ps_rows.specs.Showing.{grid_shown}
use Rattle.ps_rows.specs.RowTests.{held}
use Rattle.ps_rows.proofs.RowsKept.{kept_both, kept_nowhere}
use Rattle.ps_rows.proofs.Passed.{held_plane, row_there}
use Rattle.ps_rows.proofs.Scans.{own_row, other_row}
use Rattle.ps_rows.proofs.row_board.RowBoard.start_held.Goals as goal

pub returns-then-is_on : goal.returns-then-is_on
returns-then-is_on g c =
    let b = c.args.self.now in
    let grid : Grid = grid_shown b.members.table.items b.width b.planes.height b.layers b.planes.words.items in
    let count : ℕ = length c.args.found.now in
    let all : List (List Bool) = replicate count b.all_columns in
    let N : ℕ → ℕ → Type 0 = λ k n. k < n in
    record {
      long = c.fill_both.ensures.long ∙ sym (length-replicate count b.all_columns);
      each = λ k below.
          let low : k < count = subst (N k) (length-replicate count b.all_columns) below in
          let word : List Bool = slice_index_or c.plane_rows-words.result.now k [] in
          let here : c.args.first + k < b.planes.height =
          row_there c.args.first count k b.planes.height c.requires low in
          kept_both grid (c.args.first + k) (slice_index_or all k []) (held c.args.sought.now) word
          (slice_index_or c.fill_both.new.found k []) b.columns
          (own_row b.members.table.items b.width b.planes.height b.layers b.planes.words.items (c.args.first + k)
          b.planes.some_row b.columns here c.args.sought.now word b.objects
          (sym c.is_on.ensures ∙ c.if-is_on.true) (c.plane_rows-words.ensures.rows k low))
          (c.fill_both.ensures.both k low
          ∙ ap (λ (set : List Bool). both_columns set word) (sym (get_or-replicate count k b.all_columns [] low)));
    }

pub returns : goal.returns
returns g c =
    let b = c.args.self.now in
    let grid : Grid = grid_shown b.members.table.items b.width b.planes.height b.layers b.planes.words.items in
    let count : ℕ = length c.args.found.now in
    let all : List (List Bool) = replicate count b.all_columns in
    let none : List (List Bool) = replicate count no_columns in
    let N : ℕ → ℕ → Type 0 = λ k n. k < n in
    rw (c.fill.ensures, c.none.ensures) (record {
      long = length-replicate count no_columns ∙ sym (length-replicate count b.all_columns);
      each = λ k below.
          let low : k < count = subst (N k) (length-replicate count b.all_columns) below in
          let here : c.args.first + k < b.planes.height =
          row_there c.args.first count k b.planes.height c.requires low in
          kept_nowhere grid (c.args.first + k) (slice_index_or all k []) (held c.args.sought.now)
          (slice_index_or none k [])
          (other_row b.members.table.items b.width b.planes.height b.layers b.planes.words.items (c.args.first + k)
          b.planes.some_row b.columns here c.args.sought.now (sym c.is_on.ensures ∙ c.if-is_on.false))
          (get_or-replicate count k no_columns [] low);
    })

pub plane_rows-words-requires : goal.plane_rows-words-requires
plane_rows-words-requires g c =
    let b = c.args.self.now in
    let sought = c.args.sought.now in
    record {
      plane = held_plane b.members.table.items b.layers sought.object.0 sought.layer.0 c.is_on.result c.is_on.ensures
          c.if-is_on.true;
      rows = c.requires;
    }

pub fill_both-requires : goal.fill_both-requires
fill_both-requires g c = c.plane_rows-words.ensures.long
