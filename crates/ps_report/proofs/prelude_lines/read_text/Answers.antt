use Rattle.std.proofs.Common.{rules, ◌≡◌, ◌∙◌, ◌+◌, ◌&&◌, sym, ap, refl, subst, arith, true, false, Bool, cond, Some}
use Rattle.std.proofs.Common.{List, ℕ, Option}
use Rattle.std.specs.Prelude.{find, IfOk, unwrap_or, option_map, []}
use Rattle.ps_model.specs.text.Lines.{Line, folded, taken_bytes}
use Rattle.ps_model.specs.text.LineNumbers.{line_at, lines_between}
use Rattle.ps_model.specs.text.Preludes.{begins_with}
use Rattle.ps_report.specs.PreludeTexts.{text_after}
use Rattle.ps_laws.proofs.common.LinesInOrder.{between-step}
use Rattle.ps_report.proofs.LineSteps.{find_step}
use Rattle.ps_report.proofs.prelude_lines.read_text.Goals as goal

pub returns-then-branch : goal.returns-then-branch
returns-then-branch c =
    let text = c.args.source.now in
    let line = line_at text c.loop-line.line in
    let test = begins_with (folded c.args.word.now) in
    let rest = lines_between text (c.loop-line.line + 1) c.args.lines.now.end in
    let told : line.is_there && test line ≡ true = search rules in
    let found : find test (lines_between text c.args.lines.now.start c.args.lines.now.end) ≡ Some line =
    sym c.loop-line.invariant ∙ ap (find test)
    (between-step text c.loop-line.line (c.loop-line.line + 1) c.args.lines.now.end (omega arith) (omega arith)
    (omega arith) refl)
    ∙ find_step test line rest line.is_there ∙ ap (λ (b : Bool). cond b (Some line) (find test rest)) told in
    let same : taken_bytes line ≡ text_after (folded c.args.word.now) (lines_between text c.args.lines.now.start c.args.lines.now.end) =
    ap (λ (o : Option Line). unwrap_or (option_map taken_bytes o) []) (sym found) in
    subst (λ (t : List ℕ). IfOk c.text_taken.result (λ text. text ≡ t)) same c.text_taken.ensures

pub loop-line-preserved : goal.loop-line-preserved
loop-line-preserved c =
    let text = c.args.source.now in
    let line = line_at text c.loop-line.line in
    let test = begins_with (folded c.args.word.now) in
    let rest = lines_between text (c.loop-line.line + 1) c.args.lines.now.end in
    let told : line.is_there && test line ≡ false = search rules in
    sym (ap (find test) (between-step text c.loop-line.line (c.loop-line.line + 1) c.args.lines.now.end (omega arith)
    (omega arith) (omega arith) refl)
    ∙ find_step test line rest line.is_there ∙ ap (λ (b : Bool). cond b (Some line) (find test rest)) told)
    ∙ c.loop-line.invariant
