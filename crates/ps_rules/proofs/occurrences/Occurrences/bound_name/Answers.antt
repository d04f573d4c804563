use Rattle.std.proofs.Common.{◌∙◌, ap, filter, List}
use Rattle.ps_model.specs.meaning.Occurrences.{bound_name, here_or_only, names_it, numbers, left_items}
use Rattle.ps_model.specs.rules.SourceRules.{SourceRule}
use Rattle.ps_names.specs.Shown.{meaning_shown}
use Rattle.ps_rules.specs.RulesShown.{items_shown, cell_shown, rule_shown}
use Rattle.ps_rules.specs.declared.tree.Item.{Item}
use Rattle.ps_rules.specs.Tallies.{Named}
use Rattle.ps_rules.proofs.occurrences.Occurrences.bound_name.Goals as goal

pub returns : goal.returns
returns c =
    c.here_or_only.ensures (numbers (filter (names_it (meaning_shown c.args.meaning.now))
    (left_items (rule_shown c.self.inside.rule.now))))
    (c.name.ensures ∙ c.self.invariant.1 (Named (meaning_shown c.args.meaning.now)))
    ∙ ap (λ (items : List Item). here_or_only (numbers
    (filter (names_it (meaning_shown c.args.meaning.now)) (items_shown items)))
    (numbers (filter (names_it (meaning_shown c.args.meaning.now))
    (left_items (rule_shown c.self.inside.rule.now))))) c.as_slice.ensures
    ∙ ap (λ (rule : SourceRule). bound_name rule (cell_shown c.args.cell.now) (meaning_shown c.args.meaning.now))
    c.self.view_is
