use Rattle.std.proofs.Common.{◌∷◌, [], ◌++◌, map, refl, ap, ◌∙◌}
use Rattle.ps_model.specs.meaning.CompiledCells.{claim_write}
use Rattle.ps_rules.proofs.Loops.{loop-end}
use Rattle.ps_readings.proofs.Pieces.{mapped_more}
use Rattle.ps_compile.proofs.writes.push_claimed.Goals as goal

pub loop-claim-preserved : goal.loop-claim-preserved
loop-claim-preserved c =
    let made = c.loop-claim.writes.items in
    mapped_more (claim_write c.args.left.now) made c.push.new.self.items _ _ c.args.right.now
    c.loop-claim.claim-index c.loop-claim-test.true
    (c.in_ok-push.ensures.items ∙ ap (λ write. made ++ write ∷ []) c.claim_write.ensures) c.loop-claim.invariant

pub returns : goal.returns
returns c =
    loop-end c.loop-claim.writes.items _ (map (claim_write c.args.left.now)) c.args.right.now
    c.loop-claim.claim-index refl c.loop-claim.invariant c.loop-claim-test.false
