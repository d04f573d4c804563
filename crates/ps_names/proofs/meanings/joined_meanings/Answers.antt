use Rattle.std.proofs.Common.{◌∙◌, ◌∷◌, [], ◌+◌, List, Option, map, drop, sym, ap}
use Rattle.std.proofs.lemmas.List.{map-append}
use Rattle.ps_model.specs.names.Names.{Meaning as Meant}
use Rattle.ps_names.specs.declared.legend_names.LegendName.{LegendName}
use Rattle.ps_names.specs.LegendNames.{legend_shown}
use Rattle.ps_names.specs.MeaningSteps.{meaning_shown_if, meanings_shown, joined_at}
use Rattle.ps_names.proofs.common.Loops.{made-more}
use Rattle.ps_names.proofs.meanings.joined_meanings.Goals as goal

pub loop-name-preserved : goal.loop-name-preserved
loop-name-preserved c =
    let f : List LegendName → List (Option Meant) = λ names.
    map (joined_at (legend_shown c.args.legend.now)) (legend_shown names) in
    made-more f (meanings_shown c.loop-name.made.items) (meanings_shown c.push.new.self.items)
    (meaning_shown_if c.in_ok-meaning.meaning ∷ []) (f c.args.legend.now) c.args.legend.now c.loop-name.name-index
    c.name-item.result _
    (ap meanings_shown c.in_ok-push.ensures.items
    ∙ map-append meaning_shown_if c.loop-name.made.items (c.in_ok-meaning.meaning ∷ [])) c.loop-name-test.true
    c.name-item.is
    (ap (λ (meaning : Option Meant). meaning ∷ f (drop (c.loop-name.name-index + 1) c.args.legend.now))
    (sym c.in_ok-meaning.ensures)) c.loop-name.invariant
