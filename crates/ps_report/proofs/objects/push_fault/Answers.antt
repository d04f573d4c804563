use Rattle.std.proofs.Common.{◌++◌, ◌∷◌, [], ℕ, List, map, sym, subst}
use Rattle.serde_json.specs.Data.{Data}
use Rattle.serde_json.specs.View.{view}
use Rattle.ps_model.specs.declared.faults.Fault.{Fault as TheFault}
use Rattle.ps_report.specs.Objects.{IsFaultTold}
use Rattle.ps_report.specs.Pages.{StandFor}
use Rattle.ps_report.proofs.PagesTold.{stand_more}
use Rattle.ps_report.proofs.objects.push_fault.Goals as goal

pub returns : goal.returns
returns c = λ before was.
    let Is : TheFault → List Data → Type 0 = IsFaultTold c.args.text.now in
    let own : List Data = view c.in_ok-own.own ∷ [] in
    subst (λ (told : List Data). StandFor Is (before ++ c.args.fault ∷ []) told) (sym c.in_ok-push_value.ensures)
    (stand_more Is before c.args.fault (map view c.args.told.now.items) own was c.in_ok-own.ensures)
