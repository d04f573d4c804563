use Rattle.std.proofs.Common.{◌≡◌, ◌∙◌, ap, List, filter_map}
use Rattle.ps_model.specs.names.Meanings.{LegendName, all_mentioned, object_of}
use Rattle.ps_names.specs.declared.mention.Mention.{Mention as Waits}
use Rattle.ps_names.specs.Known.{mentions_shown}
use Rattle.ps_names.specs.LegendNames.{Reached, legend_shown, reached_shown}
use Rattle.ps_names.proofs.mentions.ReachLaw.{all_reached, objects-reached, reached-shown}
use Rattle.ps_names.proofs.reach.objects_of.Goals as goal

pub returns : goal.returns
returns c =
    let legend : List LegendName = legend_shown c.args.legend.now in
    let waits : List Waits = c.args.name.now.mentions.items in
    let reached : reached_shown c.in_ok-reach.reach ≡ all_reached legend (mentions_shown c.deref.result.now) =
    c.in_ok-reach.ensures ∙ reached-shown c.args.legend.now c.deref.result.now in
    c.from_vec.ensures ∙ ap (λ (r : Reached). r.objects) reached
    ∙ objects-reached legend (mentions_shown c.deref.result.now)
    ∙ ap (λ (ms : List Waits). filter_map object_of (all_mentioned legend (mentions_shown ms))) c.deref.ensures.value
