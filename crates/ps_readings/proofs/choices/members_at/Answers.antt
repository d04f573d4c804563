use Rattle.std.proofs.Common.{ℕ, map, refl, ◌∙◌}
use Rattle.ps_model.specs.declared.pieces.ObjectId.{ObjectId}
use Rattle.ps_rules.proofs.Loops.{loop-end}
use Rattle.ps_readings.proofs.Pieces.{mapped_more}
use Rattle.ps_readings.proofs.choices.members_at.Goals as goal

pub loop-object-preserved : goal.loop-object-preserved
loop-object-preserved c =
    mapped_more {A = ObjectId} {B = ℕ × ObjectId} (λ object. (c.args.at, object)) c.loop-object.choices.items
    c.push.new.self.items _ _ c.args.objects.now c.loop-object.object-index c.loop-object-test.true
    c.in_ok-push.ensures.items c.loop-object.invariant

pub returns : goal.returns
returns c =
    c.from_vec.ensures
    ∙ loop-end c.loop-object.choices.items _ (map {A = ObjectId} {B = ℕ × ObjectId} (λ object. (c.args.at, object)))
    c.args.objects.now c.loop-object.object-index refl c.loop-object.invariant c.loop-object-test.false
