use Rattle.std.proofs.Common.{◌≡◌, List, OnOk, ap, subst}
use Rattle.ps_model.specs.text.Lines.{lines_of}
use Rattle.ps_model.specs.game.Games.{Game}
use Rattle.ps_warnings.specs.declared.kinds.Warning.{Warning}
use Rattle.ps_warnings.proofs.WarningsMade.{declarations_told}
use Rattle.ps_warnings.proofs.declarations.warn_of_declarations.Goals as goal

pub returns : goal.returns
returns c =
    subst (λ (more : List Warning). OnOk c.push_in_order.result (c.push_in_order.new.told.items ≡ more))
    (declarations_told (lines_of c.args.source.now) _ c.args.game.now _ c.args.told.now.items
    c.warn_of_unused.new.told.items _ c.warn_of_layers.new.told.items c.deref.result.now _
    c.warn_of_ground.new.told.items c.deref-2.result.now c.requires.layers.same
    (ap (λ (g : Game). g.names) c.game.view_is) c.in_ok-warn_of_unused.ensures c.new-twice.ensures.items
    c.in_ok-warn_of_layers.ensures c.deref.ensures.value c.new-crowded.ensures.items c.in_ok-warn_of_ground.ensures
    c.deref-2.ensures.value)
    c.push_in_order.ensures
