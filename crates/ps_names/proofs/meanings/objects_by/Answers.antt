use Rattle.std.proofs.Common.{rules, ◌∙◌, ap, sym, []}
use Rattle.ps_names.specs.Known.{mentions_shown}
use Rattle.ps_names.specs.LegendNames.{name_shown, legend_shown}
use Rattle.ps_names.specs.Flattened.{merged, all_spoken, spoken_by, IsFlat}
use Rattle.ps_names.proofs.mentions.FlattenLaws.{objects-flat}
use Rattle.ps_names.proofs.meanings.objects_by.Goals as goal

pub returns : goal.returns
returns c =
    let holds : IsFlat (legend_shown c.args.legend.now) c.args.levels.now c.args.lists.now =
    c.requires (search rules) in
    c.in_ok-objects-2.ensures
    ∙ ap (λ ms. merged [] (all_spoken (spoken_by c.args.lists.now) (mentions_shown ms))) c.deref.ensures.value
    ∙ sym (objects-flat (legend_shown c.args.legend.now) c.args.levels.now c.args.lists.now holds
    (name_shown c.args.name.now))
