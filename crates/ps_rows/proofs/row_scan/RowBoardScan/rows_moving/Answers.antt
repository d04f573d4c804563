use Rattle.std.proofs.Common.{◌≡◌, ◌<◌, ◌∙◌, ℕ, Bool, List, Some, ap, false, sym, arith}
use Rattle.ps_board.specs.ColumnSets.{column_at}
use Rattle.ps_rows.specs.Showing.{grid_shown, motion_plane, motions_from}
use Rattle.ps_rows.proofs.Marked.{planes_indexed}
use Rattle.ps_rows.proofs.Unmarked.{may_move_anywhere, none_moves}
use Rattle.ps_rows.specs.Planes.{row_of}
use Rattle.ps_rows.proofs.row_scan.RowBoardScan.rows_moving.Goals as goal

pub returns-then-layers-test : goal.returns-then-layers-test
returns-then-layers-test g c =
    let b = c.args.self.now in
    may_move_anywhere (grid_shown b.members.table.items b.width b.planes.height b.layers b.planes.words.items)
    c.args.test.now g.W.ColumnWords.limit c.all.result b.planes.rows b.planes.low c.all.ensures

pub returns-in-Some : goal.returns-in-Some
returns-in-Some g c = λ row under none.
    let b = c.args.self.now in
    let test = c.args.test.now in
    let plane : ℕ = c.in-Some.plane in
    let on : (test.layer).0 < b.layers = omega arith in
    let asked : motion_plane (motions_from b.members.table.items (test.layer).0) test.motion ≡ Some plane =
    ap (λ (first : ℕ). motion_plane first test.motion) (sym c.motions_from-first.ensures.first)
    ∙ sym c.in-Some.ensures in
    let clear : column_at (row_of b.planes.index.items plane) row ≡ false =
    ap (λ (word : List Bool). column_at word row) (sym c.rows_of.ensures) ∙ none in
    let counted = planes_indexed b.members.table.items b.layers b.planes.height b.planes.words.len b.planes.index.len
    b.planes.some_row b.planes.whole b.whole in
    none_moves b.members.table.items b.width b.planes.height b.layers b.planes.words.items row b.planes.some_row
    b.columns under b.planes.index.items b.planes.index.len test plane b.motions counted
    b.planes.marked on asked clear

pub returns-in-None : goal.returns-in-None
returns-in-None g c =
    let b = c.args.self.now in
    may_move_anywhere (grid_shown b.members.table.items b.width b.planes.height b.layers b.planes.words.items)
    c.args.test.now g.W.ColumnWords.limit c.all-in-None.result b.planes.rows b.planes.low
    c.all-in-None.ensures
