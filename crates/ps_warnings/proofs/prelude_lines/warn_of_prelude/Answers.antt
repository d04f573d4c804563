use Rattle.std.proofs.Common.{◌≡◌, ◌++◌, List, OnOk, subst}
use Rattle.ps_model.specs.text.Lines.{lines_of}
use Rattle.ps_warnings.specs.declared.kinds.Warning.{Warning}
use Rattle.ps_warnings.proofs.WarningsMade.{prelude_told}
use Rattle.ps_warnings.proofs.prelude_lines.warn_of_prelude.Goals as goal

pub returns : goal.returns
returns c =
    subst (λ (more : List Warning). OnOk c.push_in_order.result (c.push_in_order.new.told.items
    ≡ c.args.told.now.items ++ more))
    (prelude_told (lines_of c.args.source.now) _ c.args.game.now _ c.warn_of_options.new.told.items c.deref.result.now _
    c.warn_of_rooms.new.told.items c.deref-2.result.now c.requires.prelude.same c.new-misspelt.ensures.items
    c.in_ok-warn_of_options.ensures c.deref.ensures.value c.new-rooms.ensures.items c.in_ok-warn_of_rooms.ensures
    c.deref-2.ensures.value)
    c.push_in_order.ensures
