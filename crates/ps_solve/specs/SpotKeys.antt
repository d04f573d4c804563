-- What the keys of spots stand for. The key of a spot has the key of its board, and what a waiting message goes on
-- with. It also has the number of the board that a restart goes back to.
use Rattle.std.specs.Prelude.{◌≡◌, ℕ, ◌<◌, List, [], Option, Some, length, slice_index_or}
use Rattle.std.specs.List.{All}
use Rattle.ps_model.specs.board.Grid.{Grid}
use Rattle.ps_model.specs.session.Solving.{Spot}
use Rattle.ps_rows.specs.Packings.{IsKey, Packed, packed_grid}
use Rattle.ps_trial.specs.Desks.{TrialValue}
use Rattle.ps_trial.specs.Told.{waits_shown}
use Rattle.ps_trial.specs.declared.told.Pending.{Pending}

-- what keys rest on: what those of boards stand for, and the keys of the boards that restarts go back to, by their
-- numbers
pub record KeyTable : Type 0 where
  pub packed : Packed
  pub restarts : List (List ℕ)

-- the board that a restart goes back to, by its number
abbrev pub restart_grid : KeyTable → ℕ → Grid
restart_grid keys restart = packed_grid keys.packed (slice_index_or keys.restarts restart [])

-- the spot that a key stands for
abbrev pub spot_at : KeyTable → List ℕ → ℕ → Option Pending → Spot
spot_at keys words restart waits = record {
  board = packed_grid keys.packed words;
  restart_board = restart_grid keys restart;
  waits = waits_shown waits;
}

-- a key that stands for a spot
abbrev pub IsSpotKey : KeyTable → List ℕ → ℕ → Type 0
IsSpotKey keys words restart = IsKey keys.packed words × (restart < length keys.restarts)

-- the boards that restarts go back to have keys
abbrev pub AreKeys : Packed → List (List ℕ) → Type 0
AreKeys packed restarts = All (IsKey packed) restarts

-- each key of a board that has a meaning keeps it
abbrev pub KeepsBoards : Packed → Packed → Type 0
KeepsBoards old new = (words : List ℕ) → IsKey old words →
    IsKey new words × (packed_grid new words ≡ packed_grid old words)

-- a key that stands for a spot goes on to stand for it
abbrev pub KeepsKeys : KeyTable → KeyTable → Type 0
KeepsKeys old new = (words : List ℕ) (restart : ℕ) (waits : Option Pending) → IsSpotKey old words restart →
    IsSpotKey new words restart × (spot_at new words restart waits ≡ spot_at old words restart waits)

-- the number of a board that a restart goes back to
abbrev pub IsRestart : KeyTable → Grid → ℕ → Type 0
IsRestart keys board restart = (restart < length keys.restarts) × (restart_grid keys restart ≡ board)

-- a trial is at the spot of a key
pub record IsAt (keys : KeyTable) (trial : TrialValue) (words : List ℕ) (restart : ℕ) : Type 0 where
  pub known : IsSpotKey keys words restart
  pub own : trial.basis.table ≡ Some keys.packed.table
  pub board : trial.here.board ≡ packed_grid keys.packed words
  pub restart_board : trial.here.restart_board ≡ restart_grid keys restart
