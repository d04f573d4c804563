use Rattle.std.proofs.Common.{◌≡◌, ◌<◌, ◌+◌, ◌∙◌, ◌-◌, ℕ, List, drop, get_or, length, sym, ap, arith}
use Rattle.std.proofs.lemmas.List.{at_drop_more}
use Rattle.ps_model.specs.declared.pieces.ObjectId.{ObjectId}
use Rattle.ps_screen.specs.GreatestObjects.{greater, greatest}
use Rattle.ps_screen.proofs.greatest.greatest.Goals as goal

pub loop-left-preserved : goal.loop-left-preserved
loop-left-preserved c =
    let objects : List ObjectId = c.args.objects.now in
    let was = c.loop-left.invariant in
    let at : ℕ = c.loop-left.left - 1 in
    let below : at < length objects = omega (arith, c.loop-left-test.true, was.within) in
    let next : c.loop-left.left ≡ at + 1 = omega (arith, c.loop-left-test.true) in
    let first : ObjectId = record { 0 = 0 } in
    record {
      within = omega (arith, was.within);
      most = c.greater-most.ensures
          ∙ ap (λ (n : ℕ). greater (get_or objects at first).0 n)
          (was.most ∙ ap (λ (k : ℕ). greatest (drop k objects)) next)
          ∙ sym (at_drop_more greatest objects at first below);
    }
