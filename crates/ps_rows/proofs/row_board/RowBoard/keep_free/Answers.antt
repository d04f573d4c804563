use Rattle.std.proofs.Common.{◌∙◌, ◌+◌, ◌<◌, ◌≤◌, [], length, refl, sym, arith}
use Rattle.ps_board.proofs.ColumnLaws.{none_in}
use Rattle.ps_rows.specs.Planes.{row_of}
use Rattle.ps_rows.proofs.Absent.{not_marked_there}
use Rattle.ps_rows.proofs.Marked.{planes_indexed}
use Rattle.std.specs.Prelude.{slice_index_or}
use Rattle.ps_model.specs.board.Grid.{Grid}
use Rattle.ps_rows.specs.Showing.{grid_shown}
use Rattle.ps_rows.specs.RowTests.{held}
use Rattle.ps_rows.proofs.RowsKept.{kept_everywhere, kept_without}
use Rattle.ps_rows.proofs.Passed.{held_plane, row_there}
use Rattle.ps_rows.proofs.Scans.{own_row, other_row}
use Rattle.ps_rows.proofs.row_board.RowBoard.keep_free.Goals as goal

pub returns-then-is_blank : goal.returns-then-is_blank
returns-then-is_blank g c =
    let b = c.args.self.now in
    let grid : Grid = grid_shown b.members.table.items b.width b.planes.height b.layers b.planes.words.items in
    let sought = c.args.sought.now in
    let counted : length b.members.table.items ≤ b.planes.index.len =
    omega (
      arith,
      planes_indexed b.members.table.items b.layers b.planes.height b.planes.words.len b.planes.index.len
          b.planes.some_row b.planes.whole b.whole,
    ) in
    record {
      long = refl;
      each = λ k low.
          let here : c.args.first + k < b.planes.height =
          row_there c.args.first (length c.args.found.now) k b.planes.height c.requires low in
          kept_everywhere grid (c.args.first + k) (slice_index_or c.args.found.now k []) (held sought)
          (not_marked_there b.members.table.items b.width b.planes.height b.layers b.planes.words.items
          b.planes.index.items b.planes.index.len (c.args.first + k) sought _ b.planes.some_row b.columns here b.objects
          counted b.planes.marked refl
          (λ below. none_in (row_of b.planes.index.items sought.object.0) (c.args.first + k)
          (c.is_blank.ensures c.if-is_blank.true) (omega (arith, here, b.planes.rows))));
    }

pub returns-then-is_on : goal.returns-then-is_on
returns-then-is_on g c =
    let b = c.args.self.now in
    let grid : Grid = grid_shown b.members.table.items b.width b.planes.height b.layers b.planes.words.items in
    record {
      long = c.keep_without.ensures.long;
      each = λ k low.
          let here : c.args.first + k < b.planes.height =
          row_there c.args.first (length c.args.found.now) k b.planes.height c.requires low in
          kept_without grid (c.args.first + k) (slice_index_or c.args.found.now k []) (held c.args.sought.now)
          (slice_index_or c.plane_rows-words.result.now k []) (slice_index_or c.keep_without.new.found k []) b.columns
          (own_row b.members.table.items b.width b.planes.height b.layers b.planes.words.items (c.args.first + k)
          b.planes.some_row b.columns here c.args.sought.now (slice_index_or c.plane_rows-words.result.now k [])
          b.objects
          (sym c.is_on.ensures ∙ c.if-is_on.true) (c.plane_rows-words.ensures.rows k low))
          (c.keep_without.ensures.without k low);
    }

pub returns-else-is_on : goal.returns-else-is_on
returns-else-is_on g c =
    let b = c.args.self.now in
    let grid : Grid = grid_shown b.members.table.items b.width b.planes.height b.layers b.planes.words.items in
    record {
      long = refl;
      each = λ k low.
          let here : c.args.first + k < b.planes.height =
          row_there c.args.first (length c.args.found.now) k b.planes.height c.requires low in
          kept_everywhere grid (c.args.first + k) (slice_index_or c.args.found.now k []) (held c.args.sought.now)
          (other_row b.members.table.items b.width b.planes.height b.layers b.planes.words.items (c.args.first + k)
          b.planes.some_row b.columns here c.args.sought.now (sym c.is_on.ensures ∙ c.if-is_on.false));
    }

pub plane_rows-words-requires : goal.plane_rows-words-requires
plane_rows-words-requires g c =
    let b = c.args.self.now in
    let sought = c.args.sought.now in
    record {
      plane = held_plane b.members.table.items b.layers sought.object.0 sought.layer.0 c.is_on.result c.is_on.ensures
          c.if-is_on.true;
      rows = c.requires;
    }

pub keep_without-requires : goal.keep_without-requires
keep_without-requires g c = c.plane_rows-words.ensures.long
