use Rattle.std.proofs.Common.{rules, ◌≡◌, ◌∙◌, ◌+◌, ◌&&◌, ◌||◌, sym, ap, refl, arith, true, false, Bool}
use Rattle.std.specs.List.{list_any}
use Rattle.ps_model.specs.text.Lines.{folded}
use Rattle.ps_model.specs.text.LineNumbers.{line_at, lines_between}
use Rattle.ps_model.specs.text.Preludes.{begins_with}
use Rattle.ps_laws.proofs.common.LinesInOrder.{between-step}
use Rattle.ps_sections.proofs.LineSteps.{any_step}
use Rattle.ps_sections.proofs.prelude.is_set.Goals as goal

pub returns-then-branch : goal.returns-then-branch
returns-then-branch c =
    let text = c.args.source.now in
    let line = line_at text c.loop-line.line in
    let test = begins_with (folded c.args.word.now) in
    let rest = lines_between text (c.loop-line.line + 1) c.args.lines.now.end in
    let told : line.is_there && test line ≡ true = search rules in
    sym (sym c.loop-line.invariant ∙ ap (list_any test)
    (between-step text c.loop-line.line (c.loop-line.line + 1) c.args.lines.now.end (omega arith) (omega arith)
    (omega arith) refl)
    ∙ any_step test line rest line.is_there ∙ ap (λ (b : Bool). b || list_any test rest) told)

pub loop-line-preserved : goal.loop-line-preserved
loop-line-preserved c =
    let text = c.args.source.now in
    let line = line_at text c.loop-line.line in
    let test = begins_with (folded c.args.word.now) in
    let rest = lines_between text (c.loop-line.line + 1) c.args.lines.now.end in
    let told : line.is_there && test line ≡ false = search rules in
    sym (ap (list_any test) (between-step text c.loop-line.line (c.loop-line.line + 1) c.args.lines.now.end
    (omega arith) (omega arith) (omega arith) refl)
    ∙ any_step test line rest line.is_there ∙ ap (λ (b : Bool). b || list_any test rest) told) ∙ c.loop-line.invariant
