-- A game that is played by its compiled programs has the runs of the game as it is written.
use Rattle.std.proofs.Common.{◌≡◌, ℕ, Option, List, [], ◌∷◌, map, refl, sym, subst, ap}
use Rattle.std.specs.Prelude.{All}
use Rattle.ps_model.specs.declared.pieces.LayerId.{LayerId}
use Rattle.ps_model.specs.declared.rules.Part.{Part}
use Rattle.ps_model.specs.declared.rules.Part.TheVariants.{Plain, Late}
use Rattle.ps_model.specs.names.Names.{Names}
use Rattle.ps_model.specs.rules.SourceRules.{RuleLine}
use Rattle.ps_model.specs.meaning.GameRules.{IsLineOf}
use Rattle.ps_model.specs.board.Programs.{Section}
use Rattle.ps_model.specs.board.RulePrograms.{program_of}
use Rattle.ps_laws.specs.AlikeScripts.{RunAlike}
use Rattle.ps_laws.proofs.texts.GamesOfTexts.{game-rules}
use Rattle.ps_laws.proofs.sessions.AlikeScripts.{alike_programs_of_games}
use Rattle.ps_board.specs.Rooms.{HaveRoom, layer_numbers}
use Rattle.ps_program.specs.declared.program.CompiledSection.{CompiledSection}
use Rattle.ps_program.specs.ProgramShown.{sections_shown}
use Rattle.ps_compile.specs.AlikeRuns.{RunsAlike}
use Rattle.ps_compile.specs.RunnablePrograms.{RunsOnBoards}
use Rattle.ps_engine.specs.RulesInRoom.{sections_meaning}
use Rattle.ps_engine.proofs.AsTheyAre.{program_as_it_is}
use Rattle.ps_rulebook.specs.PlayedGames.{GivesRoom, CompiledGamesPlayAsWritten}

-- layers of these numbers
abbrev pub layers_of : List ℕ → List LayerId
layers_of numbers = map (λ (number : ℕ). let layer : LayerId = record { 0 = number } in layer) numbers

numbers_of-layers : (numbers : List ℕ) → layer_numbers (layers_of numbers) ≡ numbers
numbers_of-layers [] = refl
numbers_of-layers (number ∷ numbers) = ap (λ (rest : List ℕ). number ∷ rest) (numbers_of-layers numbers)

-- the objects of a game have room on their layers
room_for : (table_for : List ℕ → Option (List ℕ)) → GivesRoom table_for → (numbers : List ℕ) →
    HaveRoom (table_for numbers) (layers_of numbers)
room_for table_for gives numbers =
    subst (λ (own : List ℕ). HaveRoom (table_for own) (layers_of numbers)) (numbers_of-layers numbers)
    (gives (layers_of numbers))

-- sections that are compiled of lines of a game run as these on its grids, on each kind of board that gives every
-- object room
meant_alike : (names : Names) (part : Part) (lines : List RuleLine) (sections : List CompiledSection) →
    All (IsLineOf names) lines →
    RunsAlike names part lines (sections_shown sections) → RunsOnBoards names lines (sections_shown sections) →
    (table_for : List ℕ → Option (List ℕ)) → GivesRoom table_for →
    RunAlike names (sections_meaning (table_for names.layers) sections) (program_of names part lines)
meant_alike names part lines sections own alike runs table_for gives =
    subst (λ (program : List Section). RunAlike names program (program_of names part lines))
    (sym (program_as_it_is (table_for names.layers) sections
    (runs own (table_for names.layers) (layers_of names.layers) (numbers_of-layers names.layers)
    (room_for table_for gives names.layers))))
    (alike own)

pub games-play_as_written : CompiledGamesPlayAsWritten
games-play_as_written text read e entry plain late compiled table_for gives =
    let own : All (IsLineOf read.names) read.rules = game-rules text read e in
    alike_programs_of_games text read e entry (sections_meaning (table_for read.names.layers) plain)
    (sections_meaning (table_for read.names.layers) late)
    (meant_alike read.names Plain read.rules plain own compiled.plain_alike compiled.plain_runs table_for gives)
    (meant_alike read.names Late read.rules late own compiled.late_alike compiled.late_runs table_for gives)
