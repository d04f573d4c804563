-- What the rows of whole runs compare: the bytes that a text writes on keys, from its start or from a level, and its
-- first fault.
use Rattle.std.proofs.Common.{ℕ, List, Option}
use Rattle.std.specs.Prelude.{option_map}
use Rattle.ps_model.specs.declared.faults.Fault.{Fault}
use Rattle.ps_model.specs.text.Faults.{first_fault}
use Rattle.ps_model.specs.game.Games.{faults, game}
use Rattle.ps_model.specs.board.Turns.{script_of}
use Rattle.ps_model.specs.game.Outputs.{output}
use Rattle.ps_model.specs.game.LevelRuns.{script_from_level}

-- what a text writes on keys, if it is a game
abbrev pub written : List ℕ → List ℕ → Option (List ℕ)
written text keys = option_map (λ found. (output (script_of found) keys).written) (game text)

-- what it writes on keys from the level of that number, if it has that
abbrev pub written_from : List ℕ → ℕ → List ℕ → Option (List ℕ)
written_from text level keys = option_map (λ script. (output script keys).written) (script_from_level text level)

-- the fault that a text is refused with, if it is
abbrev pub refused : List ℕ → Option Fault
refused text = first_fault (faults text)
