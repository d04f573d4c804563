use Rattle.std.proofs.Common.{◌≡◌, ◌∙◌, ◌++◌, List, OnOk, ap, ap₂, subst}
use Rattle.ps_model.specs.game.Games.{Game}
use Rattle.ps_levels.specs.WinsShown.{wins_shown}
use Rattle.ps_warnings.specs.declared.kinds.Warning.{Warning}
use Rattle.ps_warnings.specs.UnwonWarnings.{nothing_wins, rules_of, warned_of_unwon}
use Rattle.ps_warnings.proofs.unwon.warn_of_unwon.Goals as goal

pub returns : goal.returns
returns c =
    subst (λ (more : List Warning). OnOk c.warn_if.result (c.warn_if.new.told.items ≡ c.args.told.now.items ++ more))
    (ap (λ unwon. warned_of_unwon unwon c.args.header) (c.nothing_wins.ensures
    ∙ ap₂ (λ rules wins. nothing_wins (rules_of rules) wins) (ap (λ (g : Game). g.rules) c.game.view_is)
    (ap wins_shown c.deref.ensures.value ∙ ap (λ (g : Game). g.wins) c.game.view_is)))
    c.warn_if.ensures
