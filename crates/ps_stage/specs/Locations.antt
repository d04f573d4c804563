-- Where a player is, and what comes of a key, as sessions of the definitions.
use Rattle.std.specs.Prelude.{◌-◌, Bool, true, false, List, [], ◌∷◌, ◌++◌, ◌≡◌, ⊤, Option, length, take}
use Rattle.ps_model.specs.board.Grid.{Grid}
use Rattle.ps_model.specs.session.Sessions as model
use Rattle.ps_model.specs.session.Sessions.{kept}
use Rattle.ps_stage.specs.Standings.{Basis, Standing, play_of}
use Rattle.ps_stage.specs.StepsShown.{pending_shown, stands}
use Rattle.ps_stage.specs.declared.locations.Pending.{Pending}
use Rattle.ps_stage.specs.declared.locations.Location.{Location}
use Rattle.ps_stage.specs.declared.locations.Location.TheVariants.{Playing, Waiting, AtMessage, Ended}
use Rattle.ps_stage.specs.declared.locations.HistoryChange.{HistoryChange}
use Rattle.ps_stage.specs.declared.locations.HistoryChange.TheVariants.{Keeps, Adds, Clears}
use Rattle.ps_stage.specs.declared.locations.Change.{Change}
use Rattle.ps_stage.specs.declared.locations.Change.TheVariants.{Stays, Undoes, Goes}

-- a location, where a level has this history
abbrev pub location_shown : List Grid → Location Standing → model.Session
location_shown history (Playing level) = model.Playing (play_of history level)
location_shown history (Waiting level pending) = model.Waiting (play_of history level) (pending_shown pending)
location_shown history (AtMessage entry) = model.AtMessage entry
location_shown history (Ended ending) = model.Ended ending

-- the level there, if there is one, rests on this
abbrev pub IsOnBasis : Basis → Location Standing → Type 0
IsOnBasis basis (Playing level) = level.basis ≡ basis
IsOnBasis basis (Waiting level pending) = level.basis ≡ basis
IsOnBasis basis (AtMessage entry) = ⊤
IsOnBasis basis (Ended ending) = ⊤

-- the history behind a step from that board
abbrev pub history_behind : HistoryChange → List Grid → Grid → List Grid
history_behind Keeps history board = history
history_behind Adds history board = kept (history ++ board ∷ [])
history_behind Clears history board = []

-- the board before a done turn enters the history, if the turn changed it
abbrev pub history_change_if : Bool → HistoryChange
history_change_if true = Adds
history_change_if false = Keeps

-- the history behind a location without a board
abbrev pub history_behind_no_board : HistoryChange → List Grid → List Grid
history_behind_no_board Keeps history = history
history_behind_no_board Adds history = history
history_behind_no_board Clears history = []

-- the history behind a location that is left
abbrev pub history_behind_location : HistoryChange → List Grid → Location Standing → List Grid
history_behind_location history_change history (Playing level) = history_behind history_change history level.board
history_behind_location history_change history (Waiting level pending) =
    history_behind history_change history level.board
history_behind_location history_change history (AtMessage entry) = history_behind_no_board history_change history
history_behind_location history_change history (Ended ending) = history_behind_no_board history_change history

-- the level of a location as it is, where a message waits in it now, or none does
abbrev pub stood : List Grid → Location Standing → Option Pending → model.Session
stood history (Playing level) pending = stands pending (play_of history level)
stood history (Waiting level before) pending = stands pending (play_of history level)
stood history (AtMessage entry) pending = model.AtMessage entry
stood history (Ended ending) pending = model.Ended ending

-- what comes of a key at a location, where a level has this history
abbrev pub change_shown : List Grid → Location Standing → Change Standing (List Bool) → model.Session
change_shown history location (Stays pending) = stood history location pending
change_shown history location (Undoes level) = model.Playing (play_of (take (length history - 1) history) level)
change_shown history location (Goes next history_change rows) =
    location_shown (history_behind_location history_change history location) next

-- the level that it goes to, if there is one, rests on this
abbrev pub GoesOnBasis : Basis → Change Standing (List Bool) → Type 0
GoesOnBasis basis (Stays pending) = ⊤
GoesOnBasis basis (Undoes level) = level.basis ≡ basis
GoesOnBasis basis (Goes location history_change rows) = IsOnBasis basis location
