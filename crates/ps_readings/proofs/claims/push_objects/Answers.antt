use Rattle.std.proofs.Common.{◌∷◌, [], ◌++◌, map, refl, ap, ◌∙◌}
use Rattle.ps_model.specs.meaning.Rewriting.{object_claim}
use Rattle.ps_rules.proofs.Loops.{loop-end}
use Rattle.ps_readings.proofs.Pieces.{mapped_more}
use Rattle.ps_readings.proofs.claims.push_objects.Goals as goal

pub loop-object-preserved : goal.loop-object-preserved
loop-object-preserved c =
    let made = c.loop-object.claims.items in
    mapped_more (object_claim c.args.names.now c.args.motion) made c.push.new.self.items _ _ c.args.objects.now
    c.loop-object.object-index c.loop-object-test.true
    (c.in_ok-push.ensures.items ∙ ap (λ claim. made ++ claim ∷ []) c.object_claim.ensures) c.loop-object.invariant

pub returns : goal.returns
returns c =
    loop-end c.loop-object.claims.items _ (map (object_claim c.args.names.now c.args.motion)) c.args.objects.now
    c.loop-object.object-index refl c.loop-object.invariant c.loop-object-test.false
