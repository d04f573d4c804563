use Rattle.std.proofs.Common.{rules, ◌≡◌, ◌++◌, ◌∷◌, [], ℕ, List, sym, subst}
use Rattle.std.specs.Prelude.{string_bytes}
use Rattle.ps_model.specs.declared.faults.Fault.{Fault as TheFault}
use Rattle.ps_report.specs.Pages.{AreOnFault, StandFor}
use Rattle.ps_report.proofs.PagesTold.{stand_more}
use Rattle.ps_report.proofs.pages.push_lines.Goals as goal

pub returns : goal.returns
returns c = λ before was.
    let Is : TheFault → List ℕ → Type 0 = AreOnFault c.args.detail c.args.front.now c.args.text.now in
    let own : List ℕ = string_bytes c.in_ok-lines.lines in
    let more : string_bytes c.push_str.new.self ≡ string_bytes c.args.page.now ++ own = search rules in
    subst (λ (page : List ℕ). StandFor Is (before ++ c.args.fault ∷ []) page) (sym more)
    (stand_more Is before c.args.fault (string_bytes c.args.page.now) own was c.in_ok-lines.ensures)
