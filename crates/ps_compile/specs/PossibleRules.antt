-- The compiled rule of a reading, in a list of its own, if the reading is possible.
use Rattle.std.specs.Prelude.{if◌then◌else◌, List, [], ◌∷◌}
use Rattle.ps_model.specs.names.Names.{Names}
use Rattle.ps_model.specs.rules.SourceRules.{SourceRule}
use Rattle.ps_model.specs.meaning.Readings.{Reading}
use Rattle.ps_model.specs.meaning.ReadingMeanings.{is_possible}
use Rattle.ps_model.specs.meaning.Compiled.{CompiledRule}
use Rattle.ps_model.specs.meaning.CompiledRules.{rule_by}

abbrev pub rule_if : Names → SourceRule → Reading → List CompiledRule
rule_if names rule reading = if is_possible names rule reading then rule_by names rule reading ∷ [] else []
