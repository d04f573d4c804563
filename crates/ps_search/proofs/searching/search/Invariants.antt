use Rattle.std.proofs.Common.{◌≡◌, ◌≤◌, ◌-◌, length}
use Rattle.ps_search.specs.Searched.{Kept}
use Rattle.ps_search.specs.Ways.{links_of}
use Rattle.ps_search.proofs.searching.search.Given as goal

abbrev pub invariant-loop-layer : goal.invariant-loop-layer
invariant-loop-layer g l =
    record {
      kept : Kept (g.M.Moves.next l.fn.moves) (g.M.Moves.start l.fn.moves) l.inputs (g.M.Moves.is_key l.moves) (g.M.Moves.place l.moves)
          l.visited.keys.keys (links_of l.visited.parents.items l.visited.inputs.items) l.layer.at l.layer.end l.layer.depth;
      order : l.layer.at ≤ l.layer.end;
      ended : l.layer.at ≡ l.layer.end → l.layer.at ≡ length l.visited.keys.keys;
      shallow : l.layer.depth ≤ l.layer.at;
      next : g.M.Moves.next l.moves ≡ g.M.Moves.next l.fn.moves;
      start : g.M.Moves.start l.moves ≡ g.M.Moves.start l.fn.moves;
      within : length l.visited.keys.keys ≤ l.visited.limit;
      limit : l.visited.limit ≡ l.limit;
    }

abbrev pub decreases-loop-layer : goal.decreases-loop-layer
decreases-loop-layer g l = l.limit - l.layer.at
