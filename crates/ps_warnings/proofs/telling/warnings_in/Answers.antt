use Rattle.std.proofs.Common.{◌∙◌, ◌++◌, List, ap}
use Rattle.ps_model.specs.text.Lines.{lines_of}
use Rattle.ps_model.specs.game.Games.{Game}
use Rattle.ps_levels.specs.EntriesShown.{entries_shown}
use Rattle.ps_warnings.specs.declared.kinds.Warning.{Warning}
use Rattle.ps_warnings.specs.Warnings.{prelude_in}
use Rattle.ps_warnings.proofs.WarningsMade.{sections_warned}
use Rattle.ps_warnings.proofs.telling.warnings_in.Goals as goal

pub returns : goal.returns
returns c =
    let lines = lines_of c.args.source.now in
    sections_warned lines _ c.args.game.now _ _ _
    c.warn_of_prelude.new.told.items c.warn_of_declarations.new.told.items c.warn_of_rule_lines.new.told.items
    c.warn_of_win_lines.new.told.items _ c.warn_of_levels.new.told.items c.deref-3.result.now _
    c.warn_of_level_lines.new.told.items c.deref-4.result.now
    c.push_in_order.new.told.items
    c.requires.game c.requires.sections.levels.same
    (ap (λ (g : Game). g.names) c.game.view_is)
    (ap entries_shown c.deref-2.ensures.value ∙ ap (λ (g : Game). g.entries) c.game.view_is)
    (c.deref.ensures.value ∙ c.in_ok-numbers.ensures)
    (c.in_ok-warn_of_prelude.ensures
    ∙ ap (λ (told : List Warning). told ++ prelude_in c.args.game.now lines) c.new-told.ensures.items)
    c.in_ok-warn_of_declarations.ensures c.in_ok-warn_of_rule_lines.ensures c.in_ok-warn_of_win_lines.ensures
    c.new-levels.ensures.items c.in_ok-warn_of_levels.ensures c.deref-3.ensures.value
    c.new-rows.ensures.items c.in_ok-warn_of_level_lines.ensures c.deref-4.ensures.value
    c.in_ok-push_in_order.ensures
