use Rattle.std.proofs.Common.{◌≡◌, ◌∙◌, ◌+◌, ◌-◌, suc, ap, sym, arith, List, ℕ, Some, length}
use Rattle.ps_model.specs.names.Meanings.{LegendName, meaning_behind}
use Rattle.ps_names.specs.Known.{mention_shown}
use Rattle.ps_names.specs.LegendNames.{legend_shown}
use Rattle.ps_names.specs.MeaningSteps.{behind_synonym}
use Rattle.ps_names.proofs.standing.MeaningLaws.{synonym-step}
use Rattle.ps_names.proofs.meanings.meaning_behind.Goals as goal

pub returns-in_default : goal.returns-in_default
returns-in_default c =
    let most : ℕ = length c.args.legend.now - (c.loop-passed._passed + 1) in
    let left : suc most ≡ length c.args.legend.now - c.loop-passed._passed = omega arith in
    c.in_ok-meaning.ensures most
    ∙ ap (λ (n : ℕ). meaning_behind (legend_shown c.args.legend.now) n (mention_shown c.loop-passed.mention)) left
    ∙ c.loop-passed.invariant

pub loop-passed-preserved : goal.loop-passed-preserved
loop-passed-preserved c =
    let legend : List LegendName = legend_shown c.args.legend.now in
    let most : ℕ = length c.args.legend.now - (c.loop-passed._passed + 1) in
    let left : suc most ≡ length c.args.legend.now - c.loop-passed._passed = omega arith in
    let behind : behind_synonym legend (mention_shown c.loop-passed.mention) ≡ Some (mention_shown c.in-Some.next) =
    sym c.in-Some.ensures in
    sym (synonym-step legend most (mention_shown c.loop-passed.mention) (mention_shown c.in-Some.next) behind)
    ∙ ap (λ (n : ℕ). meaning_behind legend n (mention_shown c.loop-passed.mention)) left
    ∙ c.loop-passed.invariant
