use Rattle.std.proofs.Common.{◌≡◌, ◌+◌, ◌<◌, ◌≤◌, ◌∙◌, ℕ, Bool, List, None, ap, sym, arith}
use Rattle.std.proofs.lemmas.Bool.{false≢true}
use Rattle.ps_model.specs.board.Grid.{Grid}
use Rattle.ps_board.specs.ColumnSets.{no_columns}
use Rattle.ps_rows.specs.Showing.{grid_shown, motion_plane, motions_from}
use Rattle.ps_rows.specs.RowTests.{five_rows, moved}
use Rattle.ps_rows.proofs.Alike.{five_in}
use Rattle.ps_rows.proofs.KeptInSet.{never_outside, row_of_all}
use Rattle.ps_rows.proofs.Scans.{resting_row_is}
use Rattle.ps_rows.proofs.Untouched.{five_none}
use Rattle.ps_rows.proofs.row_board.RowBoard.rows_to_ask.Goals as goal

below_five : (plane first : ℕ) → plane ≤ first + 4 → plane < first + 5
below_five plane first high = omega (arith, high)

pub returns-then-layers-test : goal.returns-then-layers-test
returns-then-layers-test g c = λ row under off.
    let b = c.args.self.now in
    absurd (false≢true (sym (never_outside b.planes.height g.W.ColumnWords.limit row c.all.result c.all.ensures b.planes.low
    b.planes.rows under off)))

pub returns-in-Some : goal.returns-in-Some
returns-in-Some g c = λ row under off.
    let b = c.args.self.now in
    absurd (false≢true (sym (never_outside b.planes.height g.W.ColumnWords.limit row c.all-in-Some.result c.all-in-Some.ensures b.planes.low
    b.planes.rows under off)))

pub returns-in-None : goal.returns-in-None
returns-in-None g c = λ row under off.
    let b = c.args.self.now in
    let test = c.args.test.now in
    let height : ℕ = b.planes.height in
    let words : List (List Bool) = b.planes.words.items in
    let grid : Grid = grid_shown b.members.table.items b.width height b.layers words in
    let first : ℕ = c.motions_from-start.result in
    let own : first ≡ motions_from b.members.table.items (test.layer).0 = c.motions_from-start.ensures.first in
    let on : (test.layer).0 < b.layers = omega arith in
    let asked : motion_plane (motions_from b.members.table.items (test.layer).0) test.motion ≡ None =
    ap (λ (plane : ℕ). motion_plane plane test.motion) (sym own) ∙ sym c.in-None.ensures in
    let none : five_rows height words first row ≡ no_columns =
    five_none height words first row
    (λ plane low high. c.five_rows_of.ensures plane row (five_in first plane low (below_five plane first high)) under
    off) in
    row_of_all grid row (moved test) b.columns b.all_columns (five_rows height words first row) none
    (resting_row_is b.members.table.items b.width height b.layers words row b.planes.some_row b.columns under test
    b.all_columns (five_rows height words first row) b.all b.motions on asked
    (ap (λ (plane : ℕ). five_rows height words plane row) own))
