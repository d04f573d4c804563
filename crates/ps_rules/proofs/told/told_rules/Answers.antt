use Rattle.std.proofs.Common.{rules, ◌≡◌, ◌∙◌, ◌+◌, ◌++◌, List, None, Some, ap, sym, refl, arith}
use Rattle.std.proofs.lemmas.List.{append-nil}
use Rattle.ps_model.specs.text.Lines.{Line}
use Rattle.ps_model.specs.text.LineNumbers.{lines_between}
use Rattle.ps_model.specs.rules.RuleLines.{lines_with_words}
use Rattle.ps_laws.proofs.common.LinesInOrder.{between-step}
use Rattle.ps_rules.specs.AboveShown.{above_shown}
use Rattle.ps_rules.specs.ToldRules.{told_below, told_rules}
use Rattle.ps_rules.proofs.ToldSteps.{end-told}
use Rattle.ps_rules.proofs.told.told_rules.Goals as goal

pub loop-line-preserved : goal.loop-line-preserved
loop-line-preserved c =
    let text = c.args.source.now in
    let line = c.loop-line.line in
    let end = c.args.lines.end in
    let step = between-step text line (line + 1) end (omega arith) (omega arith) (omega arith) refl in
    record {
      few = omega (arith, c.loop-line.invariant.few, c.in_ok-above.ensures.few);
      rest =
          c.in_ok-above.ensures.told (lines_between text (line + 1) end)
          ∙ ap (λ (ls : List Line). c.loop-line.told.items ++ told_below c.args.names.now
          (above_shown c.loop-line.above) (lines_with_words ls)) (sym step) ∙ c.loop-line.invariant.rest;
    }

pub returns-in_default : goal.returns-in_default
returns-in_default c =
    let text = c.args.source.now in
    let closed : c.loop-line.above.start ≡ None = search rules in
    sym (append-nil c.loop-line.told.items)
    ∙ end-told text c.args.names.now c.loop-line.line c.args.lines.end (above_shown c.loop-line.above)
    c.loop-line.told.items (told_rules c.args.names.now (lines_between text c.args.lines.start c.args.lines.end)) None
    (omega arith) closed c.loop-line.invariant.rest

pub returns : goal.returns
returns c =
    let text = c.args.source.now in
    let open_at : c.loop-line.above.start ≡ Some c.in-Some.line = search rules in
    c.in_ok-push.ensures.items
    ∙ end-told text c.args.names.now c.loop-line.line c.args.lines.end (above_shown c.loop-line.above)
    c.loop-line.told.items (told_rules c.args.names.now (lines_between text c.args.lines.start c.args.lines.end))
    (Some c.in-Some.line) (omega arith) open_at c.loop-line.invariant.rest
