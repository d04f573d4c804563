use Rattle.std.proofs.Common.{◌≡◌, ◌∙◌, ◌++◌, List, ap, sym}
use Rattle.ps_model.specs.text.Lines.{Line}
use Rattle.ps_model.specs.rules.RuleLines.{lines_with_words}
use Rattle.ps_rules.specs.AboveShown.{above_shown}
use Rattle.ps_rules.specs.ToldRules.{told_below}
use Rattle.ps_rules.proofs.LineSteps.{nothing-here, blank-here}
use Rattle.ps_rules.proofs.ToldSteps.{line-told}
use Rattle.ps_rules.proofs.told.tell_line.Goals as goal

pub returns-then-not-is_there-clause-told : goal.returns-then-not-is_there-clause-told
returns-then-not-is_there-clause-told c = λ rest.
    ap (λ (ls : List Line). c.args.told.now.items ++ told_below c.args.names.now (above_shown c.args.above)
    (lines_with_words ls))
    (sym (nothing-here c.args.source.now c.args.line rest (sym c.is_there.ensures ∙ c.if-not-is_there.true)))

pub returns-then-is_blank_line-clause-told : goal.returns-then-is_blank_line-clause-told
returns-then-is_blank_line-clause-told c = λ rest.
    ap (λ (ls : List Line). c.args.told.now.items ++ told_below c.args.names.now (above_shown c.args.above) ls)
    (sym (blank-here c.args.source.now c.args.line rest (sym c.is_there.ensures ∙ c.if-not-is_there.false)
    (sym c.is_blank_line.ensures ∙ c.if-is_blank_line.true)))

pub returns-clause-told : goal.returns-clause-told
returns-clause-told c = λ rest.
    line-told c.args.source.now c.args.line c.args.names.now (above_shown c.args.above)
    (above_shown c.in_ok-next.next) c.in_ok-fault.fault c.args.told.now.items c.push_fault.new.told.items rest
    c.requires.there (sym c.is_there.ensures ∙ c.if-not-is_there.false)
    (sym c.is_blank_line.ensures ∙ c.if-is_blank_line.false) c.in_ok-fault.ensures c.in_ok-push_fault.ensures
    c.in_ok-next.ensures.next
