-- Both programs of a game's rules are made of what these rules mean.
use Rattle.std.proofs.Common.{List}
use Rattle.std.specs.Prelude.{All}
use Rattle.ps_model.specs.declared.rules.Part.{Part}
use Rattle.ps_model.specs.names.Names.{Names}
use Rattle.ps_model.specs.rules.SourceRules.{RuleLine}
use Rattle.ps_model.specs.meaning.ReadingMeanings.{meanings}
use Rattle.ps_model.specs.board.RulePrograms.{program_of}
use Rattle.ps_model.specs.meaning.GameRules.{IsRuleOf, IsLineOf}
use Rattle.ps_laws.specs.KeptGrids.{Keeps, KeepsInSection}
use Rattle.ps_laws.proofs.common.RuleSections.{rules-game, program-each}
use Rattle.ps_laws.proofs.grids.KeptCells.{meanings-keep}

-- the program of lines of a game
pub program_of-keep : (names : Names) (part : Part) (lines : List RuleLine) → All (IsLineOf names) lines →
    All (KeepsInSection names) (program_of names part lines)
program_of-keep names part lines all = program-each (IsRuleOf names) (Keeps names) (meanings names)
    (meanings-keep names) part lines (rules-game names lines all)
