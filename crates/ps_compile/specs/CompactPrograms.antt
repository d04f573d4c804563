-- Compiled programs of the rules that can do something, all facing down or right: what is compiled of a game. A rule
-- that faces up or left is turned round; of several rules that are the same each stays.
use Rattle.std.specs.Prelude.{Bool, true, false, not, if◌then◌else◌, List, map, filter}
use Rattle.ps_model.specs.declared.pieces.Direction.{Direction}
use Rattle.ps_model.specs.declared.pieces.Direction.TheVariants.{Up, Down, Left, Right}
use Rattle.ps_model.specs.declared.rules.Part.{Part}
use Rattle.ps_model.specs.names.Names.{Names}
use Rattle.ps_model.specs.rules.SourceRules.{SourceRule, RuleLine}
use Rattle.ps_model.specs.meaning.Directions.{opposite}
use Rattle.ps_model.specs.meaning.TurnedRound.{row_turned}
use Rattle.ps_model.specs.meaning.Compiled.{CompiledRule, CompiledSection}
use Rattle.ps_model.specs.meaning.CompiledRules.{compiled_rules}
use Rattle.ps_model.specs.board.RulePrograms.{program_by}
use Rattle.ps_compile.specs.IdleRules.{is_idle}

-- rules ---------------------------------------------------------------------------------------------------------------

-- up or left
abbrev pub faces_back : Direction → Bool
faces_back Up = true
faces_back Down = false
faces_back Left = true
faces_back Right = false

-- a compiled rule turned round: it faces the opposite way, and its rows are read from their other ends
abbrev pub rule_turned : CompiledRule → CompiledRule
rule_turned rule = record rule { direction = opposite rule.direction; rows = map row_turned rule.rows }

-- a compiled rule facing down or right
abbrev pub rule_forwards : CompiledRule → CompiledRule
rule_forwards rule = if faces_back rule.direction then rule_turned rule else rule

-- the rule isn't void
abbrev pub is_busy : Names → CompiledRule → Bool
is_busy names rule = not (is_idle names rule)

-- compiled rules facing down or right, without the void ones
abbrev pub compact : Names → List CompiledRule → List CompiledRule
compact names rules = filter (is_busy names) (map rule_forwards rules)

-- those of a source rule
abbrev pub compact_rules : Names → SourceRule → List CompiledRule
compact_rules names rule = compact names (compiled_rules names rule)

-- programs ------------------------------------------------------------------------------------------------------------

-- the program of a part of a turn
abbrev pub compact_program : Names → Part → List RuleLine → List CompiledSection
compact_program names part lines = program_by (compact_rules names) part lines
