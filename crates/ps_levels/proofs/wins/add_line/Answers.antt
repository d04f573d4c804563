use Rattle.std.proofs.Common.{rules, ◌≡◌, ◌++◌, ◌∙◌, ap, Some, true}
use Rattle.ps_model.specs.declared.faults.Fault.{Fault as TheFault}
use Rattle.ps_model.specs.text.Faults.{first_fault}
use Rattle.ps_model.specs.text.LineNumbers.{line_at}
use Rattle.ps_model.specs.board.WinLines.{wins_read, win_faults_of, win_faults}
use Rattle.ps_model.specs.declared.refusal.Refusal.{Refusal}
use Rattle.ps_model.specs.declared.refusal.Refusal.TheVariants.{Refused}
use Rattle.ps_model.specs.text.LineNumbers.{here}
use Rattle.ps_laws.proofs.common.FirstFaults.{faults-here}
use Rattle.ps_names.proofs.common.Refused.{refused-reads-as}
use Rattle.ps_levels.specs.WinsShown.{wins_shown}
use Rattle.ps_levels.proofs.wins.add_line.Goals as goal

pub returns-in_err-win : goal.returns-in_err-win
returns-in_err-win c =
    let text = c.args.source.now in
    let names = c.args.names.now in
    let there : (line_at text c.args.line).is_there ≡ true = search rules in
    let fault : Refusal = c.in_err-win.field-0.0 in
    let told : (f : TheFault) → fault ≡ Refused f → first_fault (win_faults names (here text c.args.line)) ≡ Some f =
    λ f e. ap first_fault (faults-here (win_faults_of names) text c.args.line there) ∙ c.in_err-win.ensures.1.1 f e in
    refused-reads-as (λ _. wins_shown c.args.wins.now.items) c.from_residual.result fault
    (wins_shown c.args.wins.now.items ++ wins_read names (here text c.args.line))
    (win_faults names (here text c.args.line)) c.from_residual.ensures.1 told
