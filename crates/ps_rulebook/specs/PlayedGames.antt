-- A game that is played by its compiled programs: the script that turns of these programs play, and when it has the
-- runs of the game as it is written.
use Rattle.std.specs.Prelude.{◌≡◌, ℕ, Option, Some, List}
use Rattle.ps_model.specs.declared.pieces.LayerId.{LayerId}
use Rattle.ps_model.specs.declared.rules.Part.TheVariants.{Plain, Late}
use Rattle.ps_model.specs.names.Names.{Names}
use Rattle.ps_model.specs.rules.SourceRules.{RuleLine}
use Rattle.ps_model.specs.board.Programs.{Section}
use Rattle.ps_model.specs.board.Turns.{Script, script_at}
use Rattle.ps_model.specs.meaning.Compiled as model
use Rattle.ps_model.specs.game.Games.{Game, game}
use Rattle.ps_laws.specs.AlikeScripts.{SameRuns}
use Rattle.ps_board.specs.Rooms.{HaveRoom, layer_numbers}
use Rattle.ps_program.specs.declared.program.CompiledSection.{CompiledSection}
use Rattle.ps_program.specs.ProgramShown.{sections_shown}
use Rattle.ps_compile.specs.AlikeRuns.{RunsAlike}
use Rattle.ps_compile.specs.RunnablePrograms.{RunsOnBoards}
use Rattle.ps_engine.specs.RulesInRoom.{sections_meaning}
use Rattle.ps_stage.specs.Standings.{SessionParts, all_sides, script_for}

-- a game without its rules, begun at an entry, on boards for all levels
abbrev pub parts_at : Game → ℕ → SessionParts
parts_at read entry = record {
  title = read.title;
  options = read.options;
  names = read.names;
  entries = read.entries;
  first_entry = entry;
  wins = read.wins;
  sides = all_sides;
}

-- a kind of board gives every object room on its own layer, by the table that its boards have for layers
abbrev pub GivesRoom : (List ℕ → Option (List ℕ)) → Type 0
GivesRoom table_for = (layers : List LayerId) → HaveRoom (table_for (layer_numbers layers)) layers

-- two programs are compiled of these names and lines: each comes to what its part of the lines means on grids of the
-- game, and can run as it is on boards where each object has room on its own layer
pub record AreCompiled (names : Names) (lines : List RuleLine) (plain late : List model.CompiledSection) : Type 0 where
  pub plain_alike : RunsAlike names Plain lines plain
  pub late_alike : RunsAlike names Late lines late
  pub plain_runs : RunsOnBoards names lines plain
  pub late_runs : RunsOnBoards names lines late

-- the program that sections are on boards of a table
abbrev pub meant_of : List CompiledSection → Option (List ℕ) → List Section
meant_of sections table = sections_meaning table sections

-- a game begun at an entry, played by these sections on this kind of board
abbrev pub played_by : (List ℕ → Option (List ℕ)) → Game → ℕ → List CompiledSection → List CompiledSection → Script
played_by table_for read entry plain late = script_for table_for (parts_at read entry) (meant_of plain) (meant_of late)

-- the law: a game that is played by programs compiled of its names and rules has the runs of the game as it is written,
-- at whatever entry it is begun
abbrev pub CompiledGamesPlayAsWritten : Type 0
CompiledGamesPlayAsWritten =
    (text : List ℕ) (read : Game) → game text ≡ Some read → (entry : ℕ) (plain late : List CompiledSection) →
    AreCompiled read.names read.rules (sections_shown plain) (sections_shown late) →
    (table_for : List ℕ → Option (List ℕ)) → GivesRoom table_for →
    SameRuns (played_by table_for read entry plain late) (script_at read entry)
