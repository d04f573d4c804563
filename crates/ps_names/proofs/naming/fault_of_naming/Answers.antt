use Rattle.std.proofs.Common.{◌≡◌, ◌∙◌, sym, ap, refl, rules, List, ℕ, is_some, true, suc}
use Rattle.std.specs.List.{enumerate_from, flat_map}
use Rattle.ps_model.specs.declared.faults.Fault.{Fault}
use Rattle.ps_model.specs.text.Faults.{first_fault}
use Rattle.ps_model.specs.names.Meanings.{LegendName}
use Rattle.ps_names.specs.declared.legend_names.LegendName as code
use Rattle.ps_names.specs.LegendNames.{name_shown, legend_shown}
use Rattle.ps_names.specs.MeaningSteps.{meanings_shown, faults_at}
use Rattle.ps_names.proofs.common.Elements.{element-first}
use Rattle.ps_names.proofs.common.FirstFaults.{first-here}
use Rattle.ps_names.proofs.naming.fault_of_naming.Goals as goal

pub returns-then-is_some : goal.returns-then-is_some
returns-then-is_some c =
    let there : is_some c.in_ok-fault.fault ≡ true = search rules in
    let place : ℕ = c.loop-place.place in
    let faults : ℕ × LegendName → List Fault =
    faults_at (legend_shown c.args.legend.now) (meanings_shown c.args.meanings.now) in
    let step = element-first c.args.legend.now place (suc place) c.index-legend-place.result _ c.loop-place-test.true
    refl c.index-legend-place.is in
    first-here (faults (place, name_shown c.index-legend-place.result)) _ c.in_ok-fault.fault there
    c.in_ok-fault.ensures
    ∙ ap (λ (xs : List code.LegendName). first_fault (flat_map faults (enumerate_from place (legend_shown xs))))
    (sym step)
    ∙ c.loop-place.invariant
