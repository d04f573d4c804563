use Rattle.std.proofs.Common.{◌≡◌, ◌∙◌, Bool, List, IfOk, ap, subst}
use Rattle.ps_model.specs.game.Games.{Game}
use Rattle.ps_levels.specs.EntriesShown.{entries_shown}
use Rattle.ps_warnings.specs.MeaningsSeen.{meanings_seen}
use Rattle.ps_warnings.proofs.ObjectsThere.{there_are}
use Rattle.ps_warnings.proofs.brought.objects_there.Goals as goal

pub returns : goal.returns
returns c =
    subst (λ (marks : List Bool). IfOk c.used_objects.result (λ there. there.items ≡ marks))
    (there_are c.args.game.now _ _ _ c.object_count-count.result _ _ _ (ap (λ (g : Game). g.names) c.game.view_is)
    (ap (λ (g : Game). g.rules) c.game.view_is)
    (ap entries_shown c.deref-2.ensures.value ∙ ap (λ (g : Game). g.entries) c.game.view_is)
    c.object_count-count.ensures.count (ap meanings_seen c.new-brought.ensures.items) c.in_ok-push_rules.ensures
    (ap meanings_seen c.deref.ensures.value))
    c.used_objects.ensures
