use Rattle.std.proofs.Common.{◌≡◌, ◌∙◌, ◌+◌, ◌<◌, ap, sym, arith, false, suc, List, ℕ, drop, length, get_or, None}
use Rattle.std.specs.Prelude.{not}
use Rattle.std.specs.Option.{is_none}
use Rattle.std.specs.List.{drop-map}
use Rattle.ps_model.specs.names.ObjectLines.{ObjectText}
use Rattle.ps_model.specs.text.Faults.{first_fault}
use Rattle.ps_names.specs.LinesShown.{objects_shown, object_shown}
use Rattle.ps_names.specs.Wholes.{no_layers}
use Rattle.ps_names.proofs.wholes.WholeSteps.{no-layer-step}
use Rattle.ps_names.proofs.whole.fault_of_no_layer.Goals as goal

pub loop-number-preserved : goal.loop-number-preserved
loop-number-preserved c =
    let k : ℕ = c.loop-number.number in
    let next : suc k ≡ k + 1 = omega arith in
    let within : k < length c.args.places.now = omega arith in
    let there : is_none (get_or c.args.places.now k None) ≡ false = ap not c.if-is_none.ensures in
    let step = no-layer-step (objects_shown c.args.objects.now) c.args.places.now k None within there in
    ap (λ (xs : List ObjectText). first_fault (no_layers xs (drop (k + 1) c.args.places.now)))
    (sym (drop-map object_shown (k + 1) c.args.objects.now))
    ∙ ap (λ (n : ℕ). first_fault (no_layers (drop n (objects_shown c.args.objects.now)) (drop n c.args.places.now)))
    (sym next)
    ∙ sym (ap first_fault step)
    ∙ ap (λ (xs : List ObjectText). first_fault (no_layers xs (drop k c.args.places.now)))
    (drop-map object_shown k c.args.objects.now)
    ∙ c.loop-number.invariant
