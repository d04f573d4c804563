use Rattle.std.proofs.Common.{◌∙◌, ◌++◌, ◌∷◌, [], ℕ, List, Option, ap}
use Rattle.ps_search.specs.Ways.{links_of}
use Rattle.ps_search.proofs.Links.{links_of-push}
use Rattle.ps_search.proofs.visited.push_link.Goals as goal

pub returns-clause-links : goal.returns-clause-links
returns-clause-links g c =
    ap (λ (parents : List ℕ). links_of parents c.push_reserved-2.new.self.items) c.push_reserved.ensures.items
    ∙ ap (λ (inputs : List (Option g.row.I.Denot)). links_of (c.args.parents.now.items ++ c.args.link.parent ∷ []) inputs)
    c.push_reserved-2.ensures.items
    ∙ links_of-push c.args.parents.now.items c.args.inputs.now.items c.args.link.parent c.args.link.input
    c.requires.paired
