-- Compiled rules and programs mean what their sources mean, rule by rule and section by section; so both come to the
-- same.
use Rattle.std.specs.Prelude.{Bool, List, map, All}
use Rattle.std.specs.List.{AllZip}
use Rattle.ps_model.specs.declared.rules.Part.{Part}
use Rattle.ps_model.specs.names.Names.{Names}
use Rattle.ps_model.specs.rules.SourceRules.{CellPair, SourceRule, RuleLine}
use Rattle.ps_model.specs.meaning.GameRules.{IsPairOf, IsRuleOf, IsLineOf, IsReadingOf}
use Rattle.ps_model.specs.board.GameGrids.{IsGridOf}
use Rattle.ps_model.specs.meaning.Readings.{Reading}
use Rattle.ps_model.specs.meaning.ReadingMeanings.{cell_meaning, reading_meaning, meanings}
use Rattle.ps_model.specs.board.RulePrograms.{program_of}
use Rattle.ps_model.specs.board.Attempts.{State}
use Rattle.ps_model.specs.board.Programs.{program_run}
use Rattle.ps_model.specs.meaning.Compiled.{meaning_of_cell, meaning_of_rule, meaning_of_program}
use Rattle.ps_laws.specs.EqualMeanings.{AgreeOn, SameRule, SameSection, EqualStates}
use Rattle.ps_model.specs.meaning.CompiledRules.{compiled_cell, rule_by, compiled_rules, compiled_program}

-- the compiled cell of a game's cell agrees with what that means, under each reading that chooses objects of the game
abbrev pub RuleCellsAgree : Type 0
RuleCellsAgree =
    (names : Names) (rule : SourceRule) (reading : Reading) (cell : CellPair) (rewrites : Bool) →
    IsReadingOf names reading → IsPairOf names cell →
    AgreeOn names rewrites (meaning_of_cell (compiled_cell names rule reading cell))
    (cell_meaning names rule reading cell)

-- the compiled rule of a game's rule and such a reading is like what these mean
abbrev pub ReadingsCompile : Type 0
ReadingsCompile =
    (names : Names) (rule : SourceRule) (reading : Reading) → IsRuleOf names rule → IsReadingOf names reading →
    SameRule names (meaning_of_rule (rule_by names rule reading)) (reading_meaning names rule reading)

-- the compiled rules of a game's rule are like what it means, one by one
abbrev pub RulesCompile : Type 0
RulesCompile =
    (names : Names) (rule : SourceRule) → IsRuleOf names rule →
    AllZip (SameRule names) (map meaning_of_rule (compiled_rules names rule)) (meanings names rule)

-- the compiled program of a game's rules is like their program, section by section
abbrev pub ProgramsCompile : Type 0
ProgramsCompile =
    (names : Names) (part : Part) (lines : List RuleLine) → All (IsLineOf names) lines →
    AllZip (SameSection names) (meaning_of_program (compiled_program names part lines)) (program_of names part lines)

-- so both come to the same on each grid of the game
abbrev pub CompiledProgramsRunAlike : Type 0
CompiledProgramsRunAlike =
    (names : Names) (part : Part) (lines : List RuleLine) → All (IsLineOf names) lines → (state : State) →
    IsGridOf names state.grid →
    EqualStates names (program_run (meaning_of_program (compiled_program names part lines)) state)
    (program_run (program_of names part lines) state)
