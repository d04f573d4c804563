use Rattle.std.proofs.Common.{◌≡◌, ◌∙◌, ◌<◌, ap, List, Bool, false, get_or, length, true, sym, rules}
use Rattle.std.specs.List.{list_any}
use Rattle.std.proofs.lemmas.List.{length-map}
use Rattle.ps_model.specs.names.Meanings.{LegendName, OfLine, all_mentioned, same_mention}
use Rattle.ps_names.specs.declared.mention.Mention.{Mention as Waits}
use Rattle.ps_names.specs.Known.{mentions_shown}
use Rattle.ps_names.specs.LegendNames.{Reached, name_shown, legend_shown, reached_shown}
use Rattle.ps_names.proofs.mentions.ReachLaw.{all_reached, line-reached, reached-shown}
use Rattle.ps_names.specs.Levels.{are_below, level}
use Rattle.ps_names.proofs.mentions.LevelLaws.{no-cycle}
use Rattle.ps_names.proofs.reach.is_on_cycle.Goals as goal

pub returns : goal.returns
returns c =
    let legend : List LegendName = legend_shown c.args.legend.now in
    let within : c.args.place < length legend = rw length-map c.requires.there in
    let reached : reached_shown c.in_ok-reach.reach ≡ all_reached legend (mentions_shown c.deref-2.result.now) =
    c.in_ok-reach.ensures ∙ reached-shown c.args.legend.now c.deref-2.result.now in
    c.is_marked.ensures
    ∙ ap (λ (marks : List Bool). get_or marks c.args.place false) (c.deref-3.ensures.value
    ∙ ap (λ (r : Reached). r.lines) reached)
    ∙ line-reached legend (mentions_shown c.deref-2.result.now) c.args.place within
    ∙ ap (λ (ms : List Waits). list_any (same_mention (OfLine c.args.place))
    (all_mentioned legend (mentions_shown ms))) c.deref-2.ensures.value

pub returns-then-are_below : goal.returns-then-are_below
returns-then-are_below c =
    let below : are_below c.args.levels.now (level c.args.levels.now c.args.place)
    (mentions_shown c.args.name.now.mentions.items) ≡ true = search rules in
    sym (no-cycle (legend_shown c.args.legend.now) c.args.levels.now c.args.place (name_shown c.args.name.now)
    c.requires.falls below)
