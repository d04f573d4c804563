use Rattle.std.proofs.Common.{rules, ◌≡◌, ◌∙◌, ap, ℕ, ◌+◌, true}
use Rattle.ps_model.specs.names.Meanings.{OfLine, mentions_of}
use Rattle.ps_names.specs.Known.{mentions_shown}
use Rattle.ps_names.specs.LegendNames.{legend_shown}
use Rattle.ps_names.specs.Levels.{level, are_below}
use Rattle.ps_names.proofs.mentions.LevelLaws.{one-more, mentions-at, all-fall}
use Rattle.ps_names.proofs.levels.fall.Goals as goal

pub loop-place-preserved : goal.loop-place-preserved
loop-place-preserved c =
    let place : ℕ = c.loop-place.place in
    let mentions = mentions-at c.args.legend.now place c.index-legend-place.result _ c.loop-place-test.true
    c.index-legend-place.is in
    let looked : are_below c.args.levels.now (level c.args.levels.now place + 1)
    (mentions_shown c.index-legend-place.result.mentions.items) ≡ true = search rules in
    one-more (λ line. are_below c.args.levels.now (level c.args.levels.now line + 1)
    (mentions_of (legend_shown c.args.legend.now) (OfLine line)) ≡ true)
    place c.loop-place.invariant (ap (are_below c.args.levels.now (level c.args.levels.now place + 1)) mentions
    ∙ looked)

pub returns : goal.returns
returns c = λ _. all-fall c.args.legend.now c.args.levels.now c.loop-place.place (search rules) c.loop-place.invariant
