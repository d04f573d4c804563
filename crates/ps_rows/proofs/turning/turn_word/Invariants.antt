use Rattle.std.proofs.Common.{◌≡◌, ◌<◌, ◌≤◌, ◌+◌, ◌*◌, ℕ, true, length}
use Rattle.ps_board.specs.ColumnSets.{column_at, set_columns}
use Rattle.ps_rows.specs.PackedKeys.{TurnedBut}
use Rattle.ps_rows.specs.Planes.{row_of}
use Rattle.ps_rows.specs.TurnedPlaces.{has_place, in_word, is_turned}
use Rattle.ps_rows.proofs.turning.turn_word.Given as goal

-- the places of the bits are turned round but for those that are left
abbrev pub invariant-loop-bit : goal.invariant-loop-bit
invariant-loop-bit g l =
    let n = l.fn.noted in
    let p = l.fn.planes in
    let table = l.fn.members.table.items in
    let layers = l.fn.members.ranges.len in
    record {
      turned : TurnedBut (is_turned table layers (n.width * n.height) (in_word n.numbers.items l.fn.index l.left))
          (is_turned table layers (n.width * n.height) (in_word n.numbers.items l.fn.index l.fn.bits))
          (has_place n.width n.height p.words.items) (has_place n.width n.height l.planes.words.items);
      known : (x : ℕ) → x < 64 → column_at l.left x ≡ true → l.fn.index * 64 + x < length n.places.items;
      behind : (q : ℕ) → length table * p.height ≤ q → row_of l.planes.words.items q ≡ row_of p.words.items q;
      height : l.planes.height ≡ p.height;
      count : length l.planes.words.items ≡ length p.words.items;
    }

abbrev pub decreases-loop-bit : goal.decreases-loop-bit
decreases-loop-bit g l = length (set_columns l.left)
