use Rattle.std.proofs.Common.{◌∙◌, ◌++◌, ap}
use Rattle.ps_model.specs.rules.SourceRules.{SourceRule}
use Rattle.ps_compile.specs.CompactPrograms.{compact_rules}
use Rattle.ps_program.specs.ProgramShown.{rules_shown}
use Rattle.ps_compile.proofs.rules.push_rules.Goals as goal

pub returns : goal.returns
returns c =
    c.in_ok-push_readings.ensures ∙ ap (λ (rule : SourceRule).
    rules_shown c.args.rules.now.items ++ compact_rules c.args.names.now rule) c.in_ok-occurrences.ensures
