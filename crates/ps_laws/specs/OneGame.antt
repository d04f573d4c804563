-- A text and its game: it has one at most, and exactly where it has no fault.
use Rattle.std.specs.Prelude.{◌≡◌, ℕ, ◌⊎◌, Some, None, List, []}
use Rattle.ps_model.specs.declared.faults.Fault.{Fault}
use Rattle.ps_model.specs.text.Lines.{lines_of}
use Rattle.ps_model.specs.game.Games.{Game, game_read, faults, game}
use Rattle.ps_model.specs.game.HeldFaults.{hidden_faults, IsFaultOf}
use Rattle.ps_model.specs.text.Faults.{first_fault}

-- a text has at most one game
abbrev pub AtMostOneGame : Type 0
AtMostOneGame =
    (text : List ℕ) (first second : Game) → game text ≡ Some first → game text ≡ Some second → first ≡ second

-- a text with a fault has none
abbrev pub FaultBarsGame : Type 0
FaultBarsGame = (text : List ℕ) (fault : Fault) → IsFaultOf text fault → game text ≡ None

-- a text without faults has one: what is read from its lines
abbrev pub FaultlessIsGame : Type 0
FaultlessIsGame = (text : List ℕ) → faults text ≡ [] → game text ≡ Some (game_read (lines_of text))

-- a text that has a game has no fault, and the game is what is read from its lines
abbrev pub GameIsFaultless : Type 0
GameIsFaultless =
    (text : List ℕ) (read : Game) → game text ≡ Some read → (faults text ≡ []) × (read ≡ game_read (lines_of text))

-- each text has a game or a fault
abbrev pub GameOrFault : Type 0
GameOrFault = (text : List ℕ) → ((read : Game) × (game text ≡ Some read)) ⊎ ((fault : Fault) × IsFaultOf text fault)

-- the fault that is told is one that the text has
abbrev pub FirstIsFault : Type 0
FirstIsFault = (text : List ℕ) (fault : Fault) → first_fault (faults text) ≡ Some fault → IsFaultOf text fault

-- what the list of faults leaves out stands after one that it lists
abbrev pub HiddenAreBehind : Type 0
HiddenAreBehind = (text : List ℕ) → faults text ≡ [] → hidden_faults text ≡ []
