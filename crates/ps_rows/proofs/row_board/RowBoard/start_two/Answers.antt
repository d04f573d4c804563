use Rattle.std.proofs.Common.{◌∙◌, ◌+◌, ◌<◌, ℕ, Bool, true, List, [], length, replicate, subst, sym, ap, refl}
use Rattle.std.specs.Prelude.{slice_index_or}
use Rattle.std.proofs.lemmas.List.{get_or-replicate, length-replicate}
use Rattle.ps_model.specs.declared.pieces.Slot.{Slot}
use Rattle.ps_model.specs.board.Grid.{Grid}
use Rattle.ps_board.specs.ColumnSets.{both_columns}
use Rattle.ps_rows.specs.Showing.{grid_shown}
use Rattle.ps_rows.specs.RowTests.{held}
use Rattle.ps_rows.proofs.RowsKept.{kept_both, kept_then, kept_twice}
use Rattle.ps_rows.proofs.Passed.{held_plane, row_there}
use Rattle.ps_rows.proofs.Scans.{own_row}
use Rattle.ps_rows.proofs.row_board.RowBoard.start_two.Goals as goal

pub returns-then-are_on : goal.returns-then-are_on
returns-then-are_on g c =
    let b = c.args.self.now in
    let grid : Grid = grid_shown b.members.table.items b.width b.planes.height b.layers b.planes.words.items in
    let count : ℕ = length c.args.found.now in
    let all : List (List Bool) = replicate count b.all_columns in
    let sought : List Slot → Bool = held c.args.sought.now in
    let other : List Slot → Bool = held c.args.other.now in
    let N : ℕ → ℕ → Type 0 = λ k n. k < n in
    record {
      long = c.fill_three.ensures.long ∙ sym (length-replicate count b.all_columns);
      each = λ k below.
          let low : k < count = subst (N k) (length-replicate count b.all_columns) below in
          let row : ℕ = c.args.first + k in
          let columns : List Bool = slice_index_or all k [] in
          let word : List Bool = slice_index_or c.plane_rows-words.result.now k [] in
          let more : List Bool = slice_index_or c.plane_rows-others.result.now k [] in
          let mid : List Bool = both_columns columns word in
          let kept : List Bool = slice_index_or c.fill_three.new.found k [] in
          let here : row < b.planes.height = row_there c.args.first count k b.planes.height c.requires low in
          kept_then grid row columns sought mid kept other
          (kept_both grid row columns sought word mid b.columns
          (own_row b.members.table.items b.width b.planes.height b.layers b.planes.words.items row
          b.planes.some_row b.columns here c.args.sought.now word b.objects
          (c.are_on.ensures.first c.if-are_on.true) (c.plane_rows-words.ensures.rows k low)) refl)
          (kept_both grid row mid other more kept b.columns
          (own_row b.members.table.items b.width b.planes.height b.layers b.planes.words.items row
          b.planes.some_row b.columns here c.args.other.now more b.objects
          (c.are_on.ensures.second c.if-are_on.true) (c.plane_rows-others.ensures.rows k low))
          (c.fill_three.ensures.both k low
          ∙ ap (λ (set : List Bool). both_columns (both_columns set word) more)
          (sym (get_or-replicate count k b.all_columns [] low))));
    }

pub returns : goal.returns
returns g c =
    let b = c.args.self.now in
    let grid : Grid = grid_shown b.members.table.items b.width b.planes.height b.layers b.planes.words.items in
    let all : List (List Bool) = replicate (length c.args.found.now) b.all_columns in
    kept_twice grid c.args.first all c.start_held.new.found c.keep_held.new.found (held c.args.sought.now)
    (held c.args.other.now) c.start_held.ensures c.keep_held.ensures

pub plane_rows-words-requires : goal.plane_rows-words-requires
plane_rows-words-requires g c =
    let b = c.args.self.now in
    let sought = c.args.sought.now in
    record {
      plane = held_plane b.members.table.items b.layers sought.object.0 sought.layer.0 true (sym (c.are_on.ensures.first
          c.if-are_on.true)) refl;
      rows = c.requires;
    }

pub plane_rows-others-requires : goal.plane_rows-others-requires
plane_rows-others-requires g c =
    let b = c.args.self.now in
    let other = c.args.other.now in
    record {
      plane = held_plane b.members.table.items b.layers other.object.0 other.layer.0 true (sym (c.are_on.ensures.second
          c.if-are_on.true)) refl;
      rows = c.requires;
    }

pub fill_three-requires : goal.fill_three-requires
fill_three-requires g c = record {
  words = c.plane_rows-words.ensures.long;
  others = c.plane_rows-others.ensures.long;
}
