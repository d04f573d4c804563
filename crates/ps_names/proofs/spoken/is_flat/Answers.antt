use Rattle.std.proofs.Common.{rules, ◌≡◌, ℕ, true, length, ◌∙◌, ap, sym}
use Rattle.ps_model.specs.names.Meanings.{OfLine, mentions_of}
use Rattle.ps_names.specs.Known.{mentions_shown}
use Rattle.ps_names.specs.LegendNames.{legend_shown}
use Rattle.ps_names.specs.Flattened.{IsFlatAt}
use Rattle.ps_names.proofs.mentions.LevelLaws.{one-more}
use Rattle.ps_names.proofs.mentions.FlattenLaws.{flat-here, flat-past}
use Rattle.ps_names.proofs.spoken.is_flat.Goals as goal

pub loop-place-preserved : goal.loop-place-preserved
loop-place-preserved c =
    let place : ℕ = c.loop-place.place in
    let yes : c.in_ok-is_flat_at.field-0 ≡ true = search rules in
    let flat : IsFlatAt c.args.levels.now c.args.lists.now place (mentions_shown c.deref.result.now) =
    c.in_ok-is_flat_at.ensures yes in
    let value : c.deref.result.now ≡ c.index-legend-place.result.mentions.items = c.deref.ensures.value
    ∙ ap (λ n. n.mentions.items) (sym c.index-legend-place.is) in
    one-more (λ line. IsFlatAt c.args.levels.now c.args.lists.now line
    (mentions_of (legend_shown c.args.legend.now) (OfLine line))) place c.loop-place.invariant
    (flat-here c.args.legend.now c.args.levels.now c.args.lists.now place c.index-legend-place.result _
    c.loop-place-test.true c.index-legend-place.is (rw value at flat))

pub returns : goal.returns
returns c = λ _.
    let same : length c.args.lists.now ≡ length c.args.legend.now = search rules in
    flat-past c.args.legend.now c.args.levels.now c.args.lists.now c.loop-place.place (search rules) same
    c.loop-place.invariant
