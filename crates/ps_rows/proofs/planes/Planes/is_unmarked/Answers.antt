use Rattle.std.proofs.Common.{◌+◌, ◌<◌, ◌∙◌, sym, arith}
use Rattle.std.proofs.lemmas.Bool.{not-true}
use Rattle.ps_rows.proofs.Alike.{five_in}
use Rattle.ps_rows.proofs.planes.Planes.is_unmarked.Goals as goal

pub returns : goal.returns
returns g c = λ told plane low high.
    let below : plane < c.args.first + 5 = omega (arith, high) in
    c.five_rows_of.ensures plane c.args.row (five_in c.args.first plane low below) c.requires.row
    (sym c.has.ensures ∙ not-true c.has.result told)
