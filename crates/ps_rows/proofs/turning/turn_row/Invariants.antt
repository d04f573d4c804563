use Rattle.std.proofs.Common.{◌≡◌, length}
use Rattle.ps_rows.specs.TurnedPlaces.{row_differs}
use Rattle.ps_rows.proofs.TurnedKeys.{TurnedSoFar}
use Rattle.ps_rows.proofs.TurnedPlaces.{row_differs_from}
use Rattle.ps_rows.proofs.turning.turn_row.Given as goal

-- the row is turned round in the planes passed by
abbrev pub invariant-loop-plane : goal.invariant-loop-plane
invariant-loop-plane g l =
    let n = l.fn.noted in
    let b = l.fn.from in
    let words = b.planes.words.items in
    let others = l.fn.to.planes.words.items in
    let objects = length b.members.table.items in
    record {
      so_far : TurnedSoFar (row_differs_from n.width n.height objects words others l.fn.row l.plane)
          (row_differs n.width n.height objects words others l.fn.row) n.numbers.items (length n.places.items)
          l.fn.key.words l.noted.numbers.items (length l.noted.places.items) l.key.words;
      long : length l.noted.numbers.items ≡ length n.numbers.items;
      width : l.noted.width ≡ n.width;
      height : l.noted.height ≡ n.height;
    }
