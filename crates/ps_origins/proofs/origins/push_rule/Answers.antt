use Rattle.std.proofs.Common.{◌∙◌, ◌++◌, ap}
use Rattle.ps_model.specs.rules.SourceRules.{SourceRule}
use Rattle.ps_origins.specs.Origins.{origins_of}
use Rattle.ps_origins.proofs.origins.push_rule.Goals as goal

pub returns : goal.returns
returns c =
    c.in_ok-push_readings.ensures ∙ ap (λ (rule : SourceRule).
    c.args.origins.now.items ++ origins_of c.args.names.now rule) c.in_ok-occurrences.ensures
