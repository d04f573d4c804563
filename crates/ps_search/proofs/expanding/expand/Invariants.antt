use Rattle.std.proofs.Common.{◌≡◌, ◌≤◌, length, map, take}
use Rattle.std.specs.List.{All}
use Rattle.ps_search.specs.Searched.{UnderWork, IsNumbered}
use Rattle.ps_search.specs.Ways.{links_of}
use Rattle.ps_search.proofs.expanding.expand.Given as goal

abbrev pub invariant-loop-input : goal.invariant-loop-input
invariant-loop-input g l =
    record {
      work : UnderWork (g.M.Moves.next l.fn.moves) (g.M.Moves.start l.fn.moves) l.inputs (g.M.Moves.is_key l.moves) (g.M.Moves.place l.moves) (g.M.Moves.here l.moves)
          l.visited.keys.keys (links_of l.visited.parents.items l.visited.inputs.items) l.layer.at l.layer.end l.layer.depth;
      tried : All (λ input. IsNumbered (map (g.M.Moves.place l.moves) l.visited.keys.keys) (g.M.Moves.next l.fn.moves (g.M.Moves.here l.moves) input)) (take l.input-index l.inputs);
      next : g.M.Moves.next l.moves ≡ g.M.Moves.next l.fn.moves;
      start : g.M.Moves.start l.moves ≡ g.M.Moves.start l.fn.moves;
      within : length l.visited.keys.keys ≤ l.visited.limit;
      limit : l.visited.limit ≡ l.fn.visited.limit;
    }
