use Rattle.std.proofs.Common.{◌∙◌, ◌<◌, ℕ, length, sym, arith}
use Rattle.ps_facts.proofs.Nearness.{one_more}
use Rattle.ps_facts.proofs.near.same_front.Goals as goal

pub loop-at-preserved : goal.loop-at-preserved
loop-at-preserved c =
    let at : ℕ = c.loop-at.at in
    let in_first : at < length c.args.a.now = omega arith in
    let in_second : at < length c.args.b.now = omega arith in
    one_more c.args.a.now c.args.b.now at in_first in_second
    (sym c.to_ascii_lowercase.ensures.value ∙ c.if-to_ascii_lowercase.false
    ∙ c.to_ascii_lowercase-in-loop-at.ensures.value) c.loop-at.invariant
