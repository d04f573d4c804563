use Rattle.std.proofs.Common.{◌∙◌, ap, length, replicate, List, Bool}
use Rattle.ps_rows.proofs.planes.clear.Goals as goal

pub returns : goal.returns
returns g c =
    c.fill.ensures.after (λ copy same. same) ∙ ap (λ (set : List Bool).
    replicate (length c.args.words.now) set) c.none.ensures
