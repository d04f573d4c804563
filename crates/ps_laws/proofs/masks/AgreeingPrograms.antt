-- The compiled program of a game's rules is like their program, section by section.
use Rattle.std.proofs.Common.{List, map}
use Rattle.std.specs.Prelude.{All}
use Rattle.std.specs.List.{AllZip}
use Rattle.ps_model.specs.declared.rules.Part.{Part}
use Rattle.ps_model.specs.names.Names.{Names}
use Rattle.ps_model.specs.rules.SourceRules.{RuleLine}
use Rattle.ps_model.specs.meaning.ReadingMeanings.{meanings}
use Rattle.ps_model.specs.board.Programs.{program_run}
use Rattle.ps_model.specs.board.Attempts.{State}
use Rattle.ps_model.specs.board.RulePrograms.{program_of}
use Rattle.ps_model.specs.meaning.GameRules.{IsRuleOf, IsLineOf}
use Rattle.ps_model.specs.board.GameGrids.{IsGridOf}
use Rattle.ps_model.specs.meaning.Compiled.{meaning_of_rule, meaning_of_program}
use Rattle.ps_model.specs.meaning.CompiledRules.{compiled_rules, compiled_program}
use Rattle.ps_laws.specs.EqualMeanings.{SameRule, SameGroup, SameSection, EqualStates}
use Rattle.ps_laws.proofs.common.RuleSections.{rules-game, program-related}
use Rattle.ps_laws.proofs.common.Zipped.{AllZip-flat_map}
use Rattle.ps_laws.proofs.alike.EqualPrograms.{program_run-same}
use Rattle.ps_laws.proofs.masks.AgreeingCells.{compiled_rules-same}

-- the program of lines of a game
pub compiled_program-same : (names : Names) (part : Part) (lines : List RuleLine) → All (IsLineOf names) lines →
    AllZip (SameSection names) (meaning_of_program (compiled_program names part lines)) (program_of names part lines)
compiled_program-same names part lines all =
    program-related (IsRuleOf names) (SameGroup names) (compiled_rules names) (map meaning_of_rule) (meanings names)
    (AllZip-flat_map (IsRuleOf names) (SameRule names) (compiled_rules names) meaning_of_rule (meanings names)
    (compiled_rules-same names)) part lines (rules-game names lines all)

-- so both run alike
pub compiled_program-runs : (names : Names) (part : Part) (lines : List RuleLine) → All (IsLineOf names) lines →
    (state : State) → IsGridOf names state.grid →
    EqualStates names (program_run (meaning_of_program (compiled_program names part lines)) state)
    (program_run (program_of names part lines) state)
compiled_program-runs names part lines all =
    program_run-same names (meaning_of_program (compiled_program names part lines)) (program_of names part lines)
    (compiled_program-same names part lines all)
