use Rattle.std.proofs.Common.{◌≡◌, length}
use Rattle.ps_board.specs.ColumnSets.{set_columns}
use Rattle.ps_board.proofs.Taken.{AreBelow}
use Rattle.ps_rows.specs.TurnedPlaces.{rows_differ}
use Rattle.ps_rows.proofs.TurnedKeys.{TurnedSoFar}
use Rattle.ps_rows.proofs.turning.turn_rows.Given as goal

-- the rows are turned round but for those that are left
abbrev pub invariant-loop-row : goal.invariant-loop-row
invariant-loop-row g l =
    let n = l.fn.noted in
    let b = l.fn.from in
    let words = b.planes.words.items in
    let others = l.fn.to.planes.words.items in
    let objects = length b.members.table.items in
    record {
      so_far : TurnedSoFar (rows_differ n.width n.height objects words others l.left)
          (rows_differ n.width n.height objects words others l.fn.rows) n.numbers.items (length n.places.items)
          l.fn.key.words l.noted.numbers.items (length l.noted.places.items) l.key.words;
      below : AreBelow n.height l.left;
      long : length l.noted.numbers.items ≡ length n.numbers.items;
      width : l.noted.width ≡ n.width;
      height : l.noted.height ≡ n.height;
    }

abbrev pub decreases-loop-row : goal.decreases-loop-row
decreases-loop-row g l = length (set_columns l.left)
