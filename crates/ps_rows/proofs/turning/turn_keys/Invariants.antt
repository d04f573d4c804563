use Rattle.std.proofs.Common.{◌≡◌, ◌≤◌, ◌*◌, ℕ, length}
use Rattle.ps_rows.specs.PackedKeys.{TurnedBut}
use Rattle.ps_rows.specs.Planes.{row_of}
use Rattle.ps_rows.specs.TurnedPlaces.{has_place, is_turned, keys_differ}
use Rattle.ps_rows.proofs.TurnedPlaces.{keys_differ_from}
use Rattle.ps_rows.proofs.turning.turn_keys.Given as goal

-- the places are turned round whose bits are in the words passed by
abbrev pub invariant-loop-index : goal.invariant-loop-index
invariant-loop-index g l =
    let n = l.fn.noted in
    let p = l.fn.planes in
    let table = l.fn.members.table.items in
    let layers = l.fn.members.ranges.len in
    let from = l.fn.from.words in
    let to = l.fn.to.words in
    record {
      turned : TurnedBut (is_turned table layers (n.width * n.height) (keys_differ_from n.numbers.items from to l.index))
          (is_turned table layers (n.width * n.height) (keys_differ n.numbers.items from to))
          (has_place n.width n.height p.words.items) (has_place n.width n.height l.planes.words.items);
      behind : (q : ℕ) → length table * p.height ≤ q → row_of l.planes.words.items q ≡ row_of p.words.items q;
      height : l.planes.height ≡ p.height;
      count : length l.planes.words.items ≡ length p.words.items;
    }
