use Rattle.std.proofs.Common.{◌∙◌, ◌&&◌, ap, filter, List}
use Rattle.ps_model.specs.meaning.Occurrences.{bound_word, here_or_only, names_it, moves_so, numbers, left_items}
use Rattle.ps_model.specs.rules.SourceRules.{SourceRule}
use Rattle.ps_names.specs.Shown.{meaning_shown}
use Rattle.ps_rules.specs.RulesShown.{items_shown, cell_shown, rule_shown}
use Rattle.ps_rules.specs.declared.tree.Item.{Item}
use Rattle.ps_rules.specs.Tallies.{Moving}
use Rattle.ps_rules.proofs.occurrences.Occurrences.bound_word.Goals as goal

pub returns : goal.returns
returns c =
    c.here_or_only.ensures (numbers (filter (moves_so c.args.word) (left_items (rule_shown c.self.inside.rule.now))))
    (c.word.ensures ∙ c.self.invariant.1 (Moving c.args.word))
    ∙ ap (λ (items : List Item). here_or_only (numbers
    (filter (λ item. names_it (meaning_shown c.args.meaning.now) item && moves_so c.args.word item)
    (items_shown items))) (numbers (filter (moves_so c.args.word)
    (left_items (rule_shown c.self.inside.rule.now))))) c.as_slice.ensures
    ∙ ap (λ (rule : SourceRule). bound_word rule (cell_shown c.args.cell.now) c.args.word
    (meaning_shown c.args.meaning.now)) c.self.view_is
