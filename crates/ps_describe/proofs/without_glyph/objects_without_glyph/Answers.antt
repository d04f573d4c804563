use Rattle.std.proofs.Common.{◌∙◌, ◌++◌, ◌∷◌, [], List, ℕ, ap, arith, cond, sym}
use Rattle.std.proofs.lemmas.List.FromFn.{filter_of_map_range_with_len_more}
use Rattle.ps_model.specs.declared.pieces.ObjectId.{ObjectId}
use Rattle.ps_describe.specs.Descriptions.{lacks_glyph, object_of}
use Rattle.ps_describe.proofs.without_glyph.objects_without_glyph.Goals as goal

pub loop-number-preserved : goal.loop-number-preserved
loop-number-preserved c =
    let number : ℕ = c.loop-number.number in
    c.in_ok-add_if_lacking.ensures
    ∙ ap (λ (objects : List ObjectId). objects ++ cond (lacks_glyph c.args.names.now (object_of number))
    (object_of number ∷ []) []) c.loop-number.invariant
    ∙ sym (filter_of_map_range_with_len_more (lacks_glyph c.args.names.now) object_of 0 number number (omega arith))
