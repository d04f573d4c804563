use Rattle.std.proofs.Common.{◌≡◌, false, take}
use Rattle.ps_rows.specs.RowChanges.{AreRowsChanged, AreRowsLeft}
use Rattle.ps_rows.proofs.changes.change_each.Given as goal

-- the planes passed by have their row changed, and the answer so far is theirs
abbrev pub invariant-loop-plane : goal.invariant-loop-plane
invariant-loop-plane g l =
    record {
      height : l.planes.height ≡ l.initial.planes.height;
      count : l.planes.words.len ≡ l.initial.planes.words.len;
      rows : AreRowsChanged l.initial.planes.height l.row l.change l.initial.planes.words.items l.planes.words.items
          (take l.plane-index l.places);
      before : l.any ≡ false → l.changed ≡ false;
      quiet : l.any ≡ false → l.planes.words.items ≡ l.initial.planes.words.items;
      left : l.changed ≡ false → AreRowsLeft l.initial.planes.height l.row l.change l.initial.planes.words.items
          l.places → l.any ≡ false;
    }
