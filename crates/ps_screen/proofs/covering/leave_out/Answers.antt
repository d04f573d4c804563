use Rattle.std.proofs.Common.{◌∙◌, ◌≤◌, ℕ, List, length, sym, ap, arith}
use Rattle.std.proofs.lemmas.List.{take_all}
use Rattle.ps_model.specs.declared.pieces.ObjectId.{ObjectId}
use Rattle.ps_model.specs.names.Names.{is_among}
use Rattle.ps_screen.proofs.TopmostObjects.{thinned_step}
use Rattle.ps_screen.proofs.covering.leave_out.Goals as goal

pub loop-object-preserved : goal.loop-object-preserved
loop-object-preserved c =
    record {
      thinned = thinned_step c.args.objects.now c.loop-object.object-index _ _ _ _ c.loop-object-test.true
          c.loop-object.invariant.thinned c.leave_out_one.ensures.thinned;
      long = c.leave_out_one.ensures.long ∙ c.loop-object.invariant.long;
    }

pub returns-clause-thinned : goal.returns-clause-thinned
returns-clause-thinned c = λ place character told.
    let i : ℕ = c.loop-object.object-index in
    let objects : List ObjectId = c.args.objects.now in
    let past : length objects ≤ i = omega (arith, c.loop-object-test.false) in
    let left = c.loop-object.invariant.thinned place character told in (
      ap (λ (xs : List ObjectId). is_among xs (record { 0 = place })) (sym (take_all i objects past)) ∙ left.0,
      left.1,
    )
