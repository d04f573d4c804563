-- The compiled rules of a source rule, one for each possible reading, in their order; and the compiled programs of a
-- game's rules, made of these as the programs of the source are made of what its rules mean. They mean the same, rule
-- by rule.
use Rattle.std.specs.Prelude.{List, map, filter}
use Rattle.ps_model.specs.declared.rules.Part.{Part}
use Rattle.ps_model.specs.names.Names.{Names}
use Rattle.ps_model.specs.rules.SourceRules.{CellPair, SourceRule, RuleLine}
use Rattle.ps_model.specs.meaning.Readings.{Reading, readings}
use Rattle.ps_model.specs.meaning.ReadingMeanings.{left_of_cell, right_of_cell, is_possible}
use Rattle.ps_model.specs.board.RulePrograms.{program_by}
use Rattle.ps_model.specs.meaning.Compiled.{CompiledCell, CompiledRule, CompiledSection}
use Rattle.ps_model.specs.meaning.CompiledCells.{cell_by}

-- rules ---------------------------------------------------------------------------------------------------------------

-- the compiled cell of a rule's cell under a reading
abbrev pub compiled_cell : Names → SourceRule → Reading → CellPair → CompiledCell
compiled_cell names rule reading cell =
    cell_by names (left_of_cell names rule reading cell) (right_of_cell names rule reading cell)

-- the compiled rule of a rule under a reading
abbrev pub rule_by : Names → SourceRule → Reading → CompiledRule
rule_by names rule reading = record {
  direction = reading.direction;
  rows = map (map (map (compiled_cell names rule reading))) rule.rows;
  rewrites = rule.rewrites;
  commands = rule.commands;
}

-- the compiled rules of a rule: those of its possible readings in their order
abbrev pub compiled_rules : Names → SourceRule → List CompiledRule
compiled_rules names rule = map (rule_by names rule) (filter (is_possible names rule) (readings names rule))

-- programs ------------------------------------------------------------------------------------------------------------

-- the compiled program of a part of a turn
abbrev pub compiled_program : Names → Part → List RuleLine → List CompiledSection
compiled_program names part lines = program_by (compiled_rules names) part lines
