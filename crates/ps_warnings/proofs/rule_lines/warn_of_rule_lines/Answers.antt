use Rattle.std.proofs.Common.{◌≡◌, ◌++◌, List, OnOk, ap, subst}
use Rattle.ps_model.specs.text.Lines.{lines_of}
use Rattle.ps_model.specs.game.Games.{Game}
use Rattle.ps_warnings.specs.declared.kinds.Warning.{Warning}
use Rattle.ps_warnings.proofs.WarningsMade.{rules_told}
use Rattle.ps_warnings.proofs.rule_lines.warn_of_rule_lines.Goals as goal

pub returns : goal.returns
returns c =
    subst (λ (more : List Warning). OnOk c.push_in_order.result (c.push_in_order.new.told.items
    ≡ c.args.told.now.items ++ more))
    (rules_told (lines_of c.args.source.now) _ c.args.game.now _ _ _ _ _ _ c.warn_of_rules.new.told.items
    c.warn_of_written.new.told.items c.deref-3.result.now c.deref-4.result.now _ _ c.requires.rules.same
    (ap (λ (g : Game). g.names) c.game.view_is) (ap (λ (g : Game). g.rules) c.game.view_is)
    c.in_ok-sounding.ensures c.deref.ensures.value c.in_ok-there.ensures c.deref-2.ensures.value
    c.new-wrong.ensures.items c.in_ok-warn_of_rules.ensures
    c.deref-3.ensures.value c.new-written.ensures.items c.in_ok-warn_of_written.ensures c.deref-4.ensures.value)
    c.push_in_order.ensures
