use Rattle.std.proofs.Common.{◌∷◌, [], ◌++◌, map, refl, ap, ◌∙◌}
use Rattle.ps_model.specs.meaning.CompiledCells.{layered}
use Rattle.ps_rules.proofs.Loops.{loop-end}
use Rattle.ps_readings.proofs.Pieces.{mapped_more}
use Rattle.ps_compile.proofs.masks.push_layered.Goals as goal

pub loop-object-preserved : goal.loop-object-preserved
loop-object-preserved c =
    let made = c.loop-object.made.items in
    mapped_more (layered c.args.names.now) made c.push.new.self.items _ _ c.args.objects.now
    c.loop-object.object-index c.loop-object-test.true
    (c.in_ok-push.ensures.items ∙ ap (λ object. made ++ object ∷ []) c.layered.ensures) c.loop-object.invariant

pub returns : goal.returns
returns c =
    loop-end c.loop-object.made.items _ (map (layered c.args.names.now)) c.args.objects.now
    c.loop-object.object-index refl c.loop-object.invariant c.loop-object-test.false
