use Rattle.std.proofs.Common.{◌≡◌, ◌<◌, ℕ, true, length}
use Rattle.ps_model.specs.declared.limits.TheConstants.{SIDE_LIMIT}
use Rattle.ps_board.specs.ColumnSets.{column_at, set_columns}
use Rattle.ps_rows.specs.TurnedPlaces.{in_row}
use Rattle.ps_rows.proofs.TurnedKeys.{TurnedSoFar}
use Rattle.ps_rows.proofs.turning.turn_columns.Given as goal

-- the columns are turned round but for those that are left
abbrev pub invariant-loop-column : goal.invariant-loop-column
invariant-loop-column g l =
    let n = l.fn.noted in
    record {
      so_far : TurnedSoFar (in_row n.width n.height l.fn.plane l.fn.row l.left)
          (in_row n.width n.height l.fn.plane l.fn.row l.fn.columns) n.numbers.items (length n.places.items)
          l.fn.key.words l.noted.numbers.items (length l.noted.places.items) l.key.words;
      wanted : (x : ℕ) → x < SIDE_LIMIT → column_at l.left x ≡ true → x < n.width;
      long : length l.noted.numbers.items ≡ length n.numbers.items;
      width : l.noted.width ≡ n.width;
      height : l.noted.height ≡ n.height;
    }

abbrev pub decreases-loop-column : goal.decreases-loop-column
decreases-loop-column g l = length (set_columns l.left)
