use Rattle.std.proofs.Common.{◌≡◌, ◌∙◌, ◌+◌, ap, sym, refl, arith, Some}
use Rattle.ps_model.specs.declared.faults.Fault.{Fault as TheFault}
use Rattle.ps_model.specs.text.Faults.{first_fault}
use Rattle.ps_model.specs.text.LineNumbers.{lines_between}
use Rattle.std.specs.Global.{Vec}
use Rattle.ps_model.specs.board.WinLines.{wins_read, win_faults_of, win_faults}
use Rattle.ps_model.specs.declared.refusal.Refusal.{Refusal}
use Rattle.ps_model.specs.declared.refusal.Refusal.TheVariants.{Refused}
use Rattle.ps_model.specs.text.LineNumbers.{here}
use Rattle.ps_names.proofs.common.Refused.{refused-reads-as}
use Rattle.ps_levels.specs.declared.wins.Win.{Win}
use Rattle.ps_levels.specs.WinsShown.{wins_shown}
use Rattle.ps_laws.proofs.common.LinesInOrder.{between-step}
use Rattle.ps_laws.proofs.common.FirstFaults.{first-of-lines, none-of-lines}
use Rattle.ps_levels.proofs.WinSteps.{wins-more}
use Rattle.ps_levels.proofs.wins.read_wins.Goals as goal

pub returns-in_err-add_line : goal.returns-in_err-add_line
returns-in_err-add_line c =
    let text = c.args.source.now in
    let names = c.args.names.now in
    let line = c.loop-line.line in
    let step = between-step text line (line + 1) c.args.lines.end (omega arith) (omega arith) (omega arith) refl in
    let fault : Refusal = c.in_err-add_line.field-0.0 in
    let told : (f : TheFault) → fault ≡ Refused f →
    first_fault (win_faults names (lines_between text c.args.lines.start c.args.lines.end)) ≡ Some f =
    λ f e. ap first_fault (sym c.loop-line.invariant.fine)
    ∙ first-of-lines (win_faults_of names) (lines_between text line c.args.lines.end) (here text line)
    (lines_between text (line + 1) c.args.lines.end) f step (c.in_err-add_line.ensures.1.1 f e) in
    refused-reads-as (λ (wins : Vec Win). wins_shown wins.items) c.from_residual.result fault
    (wins_read names (lines_between text c.args.lines.start c.args.lines.end))
    (win_faults names (lines_between text c.args.lines.start c.args.lines.end)) c.from_residual.ensures.1 told

pub loop-line-preserved : goal.loop-line-preserved
loop-line-preserved c =
    let text = c.args.source.now in
    let names = c.args.names.now in
    let line = c.loop-line.line in
    let step = between-step text line (line + 1) c.args.lines.end (omega arith) (omega arith) (omega arith) refl in
    record {
      part =
          wins-more names (wins_shown c.loop-line.wins.items) (wins_shown c.add_line.new.wins.items)
          (lines_between text line c.args.lines.end) (here text line)
          (lines_between text (line + 1) c.args.lines.end) step c.in_ok-add_line.ensures.0
          ∙ c.loop-line.invariant.part;
      fine =
          none-of-lines (win_faults_of names) (lines_between text line c.args.lines.end) (here text line)
          (lines_between text (line + 1) c.args.lines.end) step c.in_ok-add_line.ensures.1.0
          ∙ c.loop-line.invariant.fine;
    }
