-- Two scripts are alike where all but their rules is the same, and their programs come to the same from each grid of
-- the game. What they come to is again a grid of the game. Then they have the same turns on grids of the game, the same
-- steps, and the same runs. So a game may be played by other rules than it is written with.
use Rattle.std.specs.Prelude.{◌≡◌, ℕ, Option, Some, List, All}
use Rattle.ps_model.specs.declared.play.Input.{Input}
use Rattle.ps_model.specs.declared.play.Key.{Key}
use Rattle.ps_model.specs.declared.rules.Part.TheVariants.{Plain, Late}
use Rattle.ps_model.specs.names.Names.{Names}
use Rattle.ps_model.specs.board.Grid.{Grid}
use Rattle.ps_model.specs.board.GameGrids.{IsGridOf}
use Rattle.ps_model.specs.board.Attempts.{State}
use Rattle.ps_model.specs.board.Programs.{Section, program_run}
use Rattle.ps_model.specs.board.RulePrograms.{program_of}
use Rattle.ps_model.specs.board.Turns.{Script, script_at, Outcome, turn}
use Rattle.ps_model.specs.session.Sessions.{Session, Step}
use Rattle.ps_model.specs.session.KeySteps.{key_step}
use Rattle.ps_model.specs.game.Games.{Game, game}
use Rattle.ps_model.specs.game.Outputs.{opening_step, output, front}
use Rattle.ps_laws.specs.EqualMeanings.{EqualStates}
use Rattle.ps_laws.specs.GamesOfTexts.{LoadsAsGrid}
use Rattle.ps_laws.specs.Fronts.{session_of, whole_front}
use Rattle.ps_laws.specs.SessionBoards.{AreBoardsIn, HasBoard}

-- alike ---------------------------------------------------------------------------------------------------------------

-- two programs run alike on a game: from each of its grids they come to the same, and to a grid of the game
abbrev pub RunAlike : Names → List Section → List Section → Type 0
RunAlike names a b =
    (state : State) → IsGridOf names state.grid → EqualStates names (program_run a state) (program_run b state)

-- two scripts are alike: all but their rules is the same, and both programs run alike on the game
pub record AlikeScripts (a b : Script) : Type 0 where
  pub title : a.title ≡ b.title
  pub options : a.options ≡ b.options
  pub names : a.names ≡ b.names
  pub entries : a.entries ≡ b.entries
  pub first_entry : a.first_entry ≡ b.first_entry
  pub wins : a.wins ≡ b.wins
  pub plain : RunAlike a.names a.plain b.plain
  pub late : RunAlike a.names a.late b.late

-- a game that begins at that entry and is played by these programs instead of its rules
abbrev pub script_by : Game → ℕ → List Section → List Section → Script
script_by read entry plain late = record {
  title = read.title;
  options = read.options;
  names = read.names;
  plain = plain;
  late = late;
  entries = read.entries;
  first_entry = entry;
  wins = read.wins;
}

-- equal ---------------------------------------------------------------------------------------------------------------

-- two outcomes are equal, and their board, if they have one, is such a grid
pub record EqualOutcomes (IsSuch : Grid → Type 0) (a b : Outcome) : Type 0 where
  pub equal : a ≡ b
  pub board : HasBoard IsSuch a

-- two steps are equal, and all boards of their session are such grids
pub record EqualSteps (IsSuch : Grid → Type 0) (a b : Step) : Type 0 where
  pub equal : a ≡ b
  pub boards : AreBoardsIn IsSuch a.session

-- two scripts have the same runs: whatever bytes come, they write the same, also up to each key, and come to the same
-- session, which ignores the same keys
pub record SameRuns (a b : Script) : Type 0 where
  pub options : a.options ≡ b.options
  pub outputs : (bytes : List ℕ) → output a bytes ≡ output b bytes
  pub fronts : (bytes : List ℕ) (count : ℕ) → front a bytes count ≡ front b bytes count
  pub whole_fronts : (bytes : List ℕ) → whole_front a bytes ≡ whole_front b bytes
  pub sessions : (bytes : List ℕ) → session_of a bytes ≡ session_of b bytes

-- laws ----------------------------------------------------------------------------------------------------------------

-- the turns of scripts that are alike are equal on each grid of the game
abbrev pub AlikeTurns : Type 0
AlikeTurns = (a b : Script) → AlikeScripts a b → (input : Option Input) (g : Grid) → IsGridOf a.names g →
    EqualOutcomes (IsGridOf a.names) (turn a input g) (turn b input g)

-- so are the openings, if each level is loaded as a grid of the game
abbrev pub AlikeOpenings : Type 0
AlikeOpenings =
    (a b : Script) → AlikeScripts a b → All (LoadsAsGrid a.names) a.entries →
    EqualSteps (IsGridOf a.names) (opening_step a) (opening_step b)

-- and so is what each key does in a session whose boards are grids of the game
abbrev pub AlikeKeys : Type 0
AlikeKeys =
    (a b : Script) → AlikeScripts a b → All (LoadsAsGrid a.names) a.entries → (session : Session) (key : Key) →
    AreBoardsIn (IsGridOf a.names) session →
    EqualSteps (IsGridOf a.names) (key_step a session key) (key_step b session key)

-- so they have the same runs
abbrev pub AlikeRuns : Type 0
AlikeRuns = (a b : Script) → AlikeScripts a b → All (LoadsAsGrid a.names) a.entries → SameRuns a b

-- the game of a text, begun at any entry, has the runs of each script that is alike with its own. The rules of its own
-- are as they are written
abbrev pub AlikeGames : Type 0
AlikeGames =
    (text : List ℕ) (read : Game) → game text ≡ Some read → (entry : ℕ) (script : Script) →
    AlikeScripts script (script_at read entry) → SameRuns script (script_at read entry)

-- so has a game that is played by other programs than those of its rules, if they run alike with these
abbrev pub AlikeProgramsOfGames : Type 0
AlikeProgramsOfGames =
    (text : List ℕ) (read : Game) → game text ≡ Some read → (entry : ℕ) (plain late : List Section) →
    RunAlike read.names plain (program_of read.names Plain read.rules) →
    RunAlike read.names late (program_of read.names Late read.rules) →
    SameRuns (script_by read entry plain late) (script_at read entry)
