-- A search of a level, as contracts see it.
use Rattle.std.specs.Prelude.{◌≡◌, ℕ, List, Option, Some}
use Rattle.ps_board.specs.Histories.{BoardShown}
use Rattle.ps_model.specs.board.Turns.{Script}
use Rattle.ps_model.specs.session.Solving.{Spot}
use Rattle.ps_engine.specs.RulesInRoom.{sections_meaning}
use Rattle.ps_program.specs.declared.program.CompiledSection.{CompiledSection}
use Rattle.ps_rows.specs.Packings.{packed_grid}
use Rattle.ps_trial.specs.Desks.{Basis, TrialValue}
use Rattle.ps_trial.specs.declared.told.Pending.{Pending}
use Rattle.ps_turn.specs.States.{script_with}
use Rattle.ps_solve.specs.SpotKeys.{KeyTable, spot_at, IsSpotKey, IsAt}

-- a game by whose turns trials are, with the programs that its sections are on such boards
abbrev pub script_of : Basis → List CompiledSection → List CompiledSection → Script
script_of basis plain late =
    script_with basis.parts (sections_meaning basis.table plain) (sections_meaning basis.table late)

-- the parts of a key
pub record KeyParts : Type 0 where
  pub words : List ℕ
  pub restart : ℕ
  pub waits : Option Pending

abbrev pub key_parts : List ℕ → ℕ → Option Pending → KeyParts
key_parts words restart waits = record { words = words; restart = restart; waits = waits }

-- a search: the game by whose turns it goes, and what its keys rest on. It has the key of the spot where it begins, and
-- that of the spot where it is
pub record SearchValue : Type 0 where
  pub basis : Basis
  pub plain : List CompiledSection
  pub late : List CompiledSection
  pub keys : KeyTable
  pub start : KeyParts
  pub at : KeyParts

-- that game
abbrev pub played_by : SearchValue → Script
played_by search = script_of search.basis search.plain search.late

-- where it begins, and where it is
abbrev pub start_of : SearchValue → Spot
start_of search = spot_at search.keys search.start.words search.start.restart search.start.waits

abbrev pub here_of : SearchValue → Spot
here_of search = spot_at search.keys search.at.words search.at.restart search.at.waits

-- the trial is at the spot of a key, whose board a second board shows, and the start has a key
pub record IsStanding (keys : KeyTable) (trial : TrialValue) (board : BoardShown) (first here : KeyParts) : Type 0 where
  pub at : IsAt keys trial here.words here.restart
  pub start : IsSpotKey keys first.words first.restart
  pub own_grid : board.grid ≡ packed_grid keys.packed here.words
  pub own_table : board.table ≡ Some keys.packed.table
