use Rattle.std.proofs.Common.{ℕ, map, refl, ◌∙◌}
use Rattle.ps_model.specs.declared.pieces.Motion.{Motion}
use Rattle.ps_rules.proofs.Loops.{loop-end}
use Rattle.ps_readings.proofs.Pieces.{mapped_more}
use Rattle.ps_readings.proofs.choices.moves_at.Goals as goal

pub loop-motion-preserved : goal.loop-motion-preserved
loop-motion-preserved c =
    mapped_more {A = Motion} {B = ℕ × Motion} (λ motion. (c.args.at, motion)) c.loop-motion.choices.items
    c.push.new.self.items _ _ c.args.moves.now c.loop-motion.motion-index c.loop-motion-test.true
    c.in_ok-push.ensures.items c.loop-motion.invariant

pub returns : goal.returns
returns c =
    c.from_vec.ensures
    ∙ loop-end c.loop-motion.choices.items _ (map {A = Motion} {B = ℕ × Motion} (λ motion. (c.args.at, motion)))
    c.args.moves.now c.loop-motion.motion-index refl c.loop-motion.invariant c.loop-motion-test.false
