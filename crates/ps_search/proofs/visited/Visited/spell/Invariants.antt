use Rattle.std.proofs.Common.{◌≡◌, ◌<◌, [], ◌∷◌, ◌++◌, length, reverse}
use Rattle.ps_search.specs.Ways.{links_of, way}
use Rattle.ps_search.proofs.visited.Visited.spell.Given as goal

abbrev pub invariant-loop-input : goal.invariant-loop-input
invariant-loop-input g l =
    let links = links_of l.self.parents.items l.self.inputs.items in
    record {
      below : l.at < length l.self.parents.items;
      spells : way links l.at ++ reverse l.inputs.items ≡ way links l.number ++ l.fn.last ∷ [];
    }

abbrev pub decreases-loop-input : goal.decreases-loop-input
decreases-loop-input g l = l.at
