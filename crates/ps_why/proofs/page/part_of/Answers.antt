use Rattle.std.proofs.Common.{◌∙◌, ℕ, List, slice_range, take, ap}
use Rattle.std.proofs.lemmas.List.{take_min}
use Rattle.ps_why.specs.declared.lines.TheConstants.{MOST_SHOWN}
use Rattle.ps_why.proofs.page.part_of.Goals as goal

pub returns-clause-part : goal.returns-clause-part
returns-clause-part c =
    let line : List ℕ = slice_range c.args.text.now c.args.from c.args.to in
    ap (λ (n : ℕ). take n line) c.min.ensures ∙ take_min MOST_SHOWN line
