use Rattle.std.proofs.Common.{refl}
use Rattle.std.specs.List.{filter_map}
use Rattle.ps_model.specs.meaning.CompiledCells.{motion_test}
use Rattle.ps_rules.proofs.Loops.{loop-end}
use Rattle.ps_readings.proofs.Pieces.{sifted_one_more}
use Rattle.ps_compile.proofs.masks.motions_of.Goals as goal

pub loop-claim-preserved : goal.loop-claim-preserved
loop-claim-preserved c =
    sifted_one_more motion_test c.loop-claim.made.items c.push_motion.new.made.items _ _ c.args.claims.now
    c.loop-claim.claim-index c.loop-claim-test.true c.in_ok-push_motion.ensures c.loop-claim.invariant

pub returns : goal.returns
returns c =
    loop-end c.loop-claim.made.items _ (filter_map motion_test) c.args.claims.now c.loop-claim.claim-index refl
    c.loop-claim.invariant c.loop-claim-test.false
