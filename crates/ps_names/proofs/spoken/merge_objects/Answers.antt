use Rattle.std.proofs.Common.{◌∙◌, ◌∷◌, [], ◌+◌, List, drop, refl, sym, ap, add-one}
use Rattle.ps_model.specs.declared.pieces.ObjectId.{ObjectId}
use Rattle.ps_names.specs.Flattened.{merged}
use Rattle.ps_names.proofs.common.Elements.{element-first}
use Rattle.ps_names.proofs.mentions.MergedLaws.{merged-append}
use Rattle.ps_names.proofs.spoken.merge_objects.Goals as goal

pub loop-other-preserved : goal.loop-other-preserved
loop-other-preserved c =
    let others : List ObjectId = drop (c.loop-other.other-index + 1) c.args.others.now in
    ap (λ (objects : List ObjectId). merged objects others) c.in_ok-merge_object.ensures
    ∙ sym (merged-append c.loop-other.objects.items (_ ∷ []) others)
    ∙ ap (merged c.loop-other.objects.items)
    (sym (element-first c.args.others.now c.loop-other.other-index (c.loop-other.other-index + 1) _ _
    c.loop-other-test.true (add-one c.loop-other.other-index) refl))
    ∙ c.loop-other.invariant
