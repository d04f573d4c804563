use Rattle.std.proofs.Common.{◌≡◌, ◌∙◌, rules, sym, ap, Some, List, rules}
use Rattle.ps_model.specs.names.Meanings as model
use Rattle.ps_names.specs.declared.mention.Mention.TheVariants.{Line}
use Rattle.ps_names.specs.Known.{mention_shown}
use Rattle.ps_names.specs.LegendNames.{legend_shown}
use Rattle.ps_names.specs.MeaningSteps.{behind_synonym}
use Rattle.ps_names.proofs.standing.EndLaws.{one-behind, never-ends}
use Rattle.ps_names.proofs.ends.walk.Goals as goal

pub returns-then-eq : goal.returns-then-eq
returns-then-eq c =
    let legend : List model.LegendName = legend_shown c.args.legend.now in
    let same : c.in-Some.next ≡ Line c.args.place = search rules in
    let behind : behind_synonym legend (mention_shown c.loop-passed.mention) ≡ Some (model.OfLine c.args.place) =
    sym c.in-Some.ensures ∙ ap (λ m. Some (mention_shown m)) same in
    never-ends legend c.args.place c.loop-passed.passed
    (one-behind legend (model.OfLine c.args.place) (mention_shown c.loop-passed.mention) (model.OfLine c.args.place)
    c.loop-passed.passed c.loop-passed.invariant behind)

pub loop-passed-preserved : goal.loop-passed-preserved
loop-passed-preserved c =
    let legend : List model.LegendName = legend_shown c.args.legend.now in
    one-behind legend (model.OfLine c.args.place) (mention_shown c.loop-passed.mention) (mention_shown c.in-Some.next)
    c.loop-passed.passed c.loop-passed.invariant (sym c.in-Some.ensures)
