use Rattle.std.proofs.Common.{◌≡◌, ◌<◌, ◌≤◌, ℕ, ◌∙◌, Some, None, ap, sym, arith}
use Rattle.ps_rows.specs.Showing.{motion_plane, motions_from}
use Rattle.ps_rows.specs.RowTests.{five_rows}
use Rattle.ps_rows.proofs.Scans.{beyond_row, moving_row_is, resting_row_is}
use Rattle.ps_rows.proofs.row_board.RowBoard.motion_row.Goals as goal

pub returns-then-layers-test : goal.returns-then-layers-test
returns-then-layers-test g c =
    let b = c.args.self.now in
    let off : b.layers ≤ (c.args.test.now.layer).0 = omega arith in
    beyond_row b.members.table.items b.width b.planes.height b.layers b.planes.words.items c.args.row b.planes.some_row
    b.columns c.requires c.args.test.now c.still_row.result off c.still_row.ensures

pub returns-in-Some : goal.returns-in-Some
returns-in-Some g c =
    let b = c.args.self.now in
    let test = c.args.test.now in
    let on : (test.layer).0 < b.layers = omega arith in
    let asked : motion_plane (motions_from b.members.table.items (test.layer).0) test.motion ≡ Some c.in-Some.plane =
    ap (λ (first : ℕ). motion_plane first test.motion) (sym c.motions_from-first.ensures.first)
    ∙ sym c.in-Some.ensures in
    moving_row_is b.members.table.items b.width b.planes.height b.layers b.planes.words.items c.args.row
    b.planes.some_row b.columns c.requires test c.row.result c.in-Some.plane b.motions on asked c.row.ensures

pub returns-in-None : goal.returns-in-None
returns-in-None g c =
    let b = c.args.self.now in
    let test = c.args.test.now in
    let on : (test.layer).0 < b.layers = omega arith in
    let asked : motion_plane (motions_from b.members.table.items (test.layer).0) test.motion ≡ None =
    ap (λ (first : ℕ). motion_plane first test.motion) (sym c.motions_from-first.ensures.first)
    ∙ sym c.in-None.ensures in
    let any : c.moving_row.result ≡ five_rows b.planes.height b.planes.words.items
    (motions_from b.members.table.items (test.layer).0) c.args.row =
    c.moving_row.ensures ∙ ap (λ (first : ℕ). five_rows b.planes.height b.planes.words.items first c.args.row)
    c.motions_from-first.ensures.first in
    rw c.without.ensures
    (resting_row_is b.members.table.items b.width b.planes.height b.layers b.planes.words.items c.args.row
    b.planes.some_row b.columns c.requires test b.all_columns c.moving_row.result b.all b.motions on
    asked any)
