use Rattle.std.proofs.Common.{◌≡◌, ◌∙◌, ◌+◌, ap, sym, rules, arith, true, false, List, drop}
use Rattle.std.specs.Str.{bytes_eq}
use Rattle.ps_model.specs.text.Faults.{first_fault}
use Rattle.ps_model.specs.text.Lines.{folded}
use Rattle.ps_names.specs.declared.legend_names.LegendName as code
use Rattle.ps_names.specs.LegendNames.{legend_shown, name_shown}
use Rattle.ps_names.specs.Wholes.{faults_of_lines, lines_of_name}
use Rattle.ps_names.proofs.common.Elements.{element-first}
use Rattle.ps_names.proofs.wholes.WholeSteps.{name-hit, name-miss}
use Rattle.ps_names.proofs.whole.fault_at_name.Goals as goal

pub returns-then-folds_to : goal.returns-then-folds_to
returns-then-folds_to c =
    let same : bytes_eq (folded c.declared-item.result.name.now) c.args.name.now ≡ true = search rules in
    let next : _ = c.loop-declared.declared-index + 1 in
    let first = element-first c.args.legend.now c.loop-declared.declared-index next c.declared-item.result
    c.declared-item.result c.loop-declared-test.true (omega arith) c.declared-item.is in
    sym (name-hit c.args.kind c.args.name.now (name_shown c.declared-item.result)
    (legend_shown (drop next c.args.legend.now)) same)
    ∙ ap (λ (xs : List code.LegendName). first_fault
    (faults_of_lines true c.args.kind (lines_of_name (legend_shown xs) c.args.name.now))) (sym first)
    ∙ c.loop-declared.invariant

pub loop-declared-preserved : goal.loop-declared-preserved
loop-declared-preserved c =
    let other : bytes_eq (folded c.declared-item.result.name.now) c.args.name.now ≡ false = search rules in
    let next : _ = c.loop-declared.declared-index + 1 in
    let first = element-first c.args.legend.now c.loop-declared.declared-index next c.declared-item.result
    c.declared-item.result c.loop-declared-test.true (omega arith) c.declared-item.is in
    sym (ap first_fault (name-miss c.args.kind c.args.name.now (name_shown c.declared-item.result)
    (legend_shown (drop next c.args.legend.now)) other))
    ∙ ap (λ (xs : List code.LegendName). first_fault
    (faults_of_lines true c.args.kind (lines_of_name (legend_shown xs) c.args.name.now))) (sym first)
    ∙ c.loop-declared.invariant
