use Rattle.std.proofs.Common.{◌≡◌, ◌∙◌, Bool, IfOk, ap, ap₂, subst}
use Rattle.ps_rules.specs.RulesShown.{cell_list_shown}
use Rattle.ps_warnings.specs.GroundWarnings.{are_stuck, put_objects}
use Rattle.ps_warnings.specs.Moved.{cells_in}
use Rattle.ps_warnings.proofs.grounds.is_crowded.Goals as goal

pub returns : goal.returns
returns c =
    let names = c.args.names.now in
    let cells : cell_list_shown c.deref-3.result.now ≡ cells_in c.args.rules.now =
    ap cell_list_shown c.deref-3.ensures.value ∙ c.in_ok-cells.ensures in
    let put : c.deref-2.result.now ≡ put_objects names (cells_in c.args.rules.now) =
    c.deref-2.ensures.value ∙ c.in_ok-put.ensures
    ∙ ap (put_objects names) (ap cell_list_shown c.deref.ensures.value ∙ c.in_ok-cells.ensures) in
    subst (λ (crowded : Bool). IfOk c.are_stuck.result (λ is. is ≡ crowded)) (ap₂ (are_stuck names) put cells)
    c.are_stuck.ensures
