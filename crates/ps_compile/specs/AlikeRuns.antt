-- What a compiled program does on a game.
use Rattle.std.specs.Prelude.{List, All}
use Rattle.ps_model.specs.declared.rules.Part.{Part}
use Rattle.ps_model.specs.names.Names.{Names}
use Rattle.ps_model.specs.rules.SourceRules.{RuleLine}
use Rattle.ps_model.specs.meaning.GameRules.{IsLineOf}
use Rattle.ps_model.specs.board.GameGrids.{IsGridOf}
use Rattle.ps_model.specs.board.Attempts.{State}
use Rattle.ps_model.specs.board.Programs.{program_run}
use Rattle.ps_model.specs.board.RulePrograms.{program_of}
use Rattle.ps_model.specs.meaning.Compiled.{CompiledSection, meaning_of_program}
use Rattle.ps_laws.specs.EqualMeanings.{EqualStates}

-- if the source lines are lines of the game: from each grid of the game, a run of the sections comes to what they come
-- to by rewriting
abbrev pub RunsAlike : Names → Part → List RuleLine → List CompiledSection → Type 0
RunsAlike names part lines sections =
    All (IsLineOf names) lines → (state : State) → IsGridOf names state.grid →
    EqualStates names (program_run (meaning_of_program sections) state)
    (program_run (program_of names part lines) state)
