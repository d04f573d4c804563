use Rattle.std.proofs.Common.{rules, ◌≡◌, ◌∙◌, None, ap, sym}
use Rattle.ps_model.specs.rules.RuleFaults.{above_next}
use Rattle.ps_model.specs.rules.RuleLines.{LineForm}
use Rattle.ps_rules.specs.AboveShown.{above_shown}
use Rattle.ps_rules.specs.FormsShown.{loop_mark_of}
use Rattle.ps_rules.specs.SymbolsShown.{tokens_shown}
use Rattle.ps_rules.proofs.FormSteps.{unmarked_form}
use Rattle.ps_rules.proofs.told.below_words.Goals as goal

pub returns-clause-next : goal.returns-clause-next
returns-clause-next c = λ at.
    let none : loop_mark_of (tokens_shown c.args.tokens.now) ≡ None = search rules in
    c.in_ok-next.ensures.next at c.args.line
    ∙ ap (λ (form : LineForm). above_next (above_shown c.args.above) c.args.line form)
    (sym (unmarked_form at (tokens_shown c.args.tokens.now) none))
