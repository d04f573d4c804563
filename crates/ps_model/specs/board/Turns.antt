-- One turn: every object of Player gets the key's motion, if there is one; then come the plain program, the movement
-- and the late program. What comes of it is the first of four outcomes whose condition holds.
use Rattle.std.specs.Prelude.{ℕ, Bool, true, false, ◌&&◌, ◌||◌, not, if◌then◌else◌, Option, Some, None, List, [], ◌∷◌}
use Rattle.std.specs.Prelude.{filter}
use Rattle.std.specs.List.{list_all, list_any, range_with_len}
use Rattle.ps_model.specs.declared.pieces.Slot.{Slot}
use Rattle.ps_model.specs.declared.play.Input.{Input}
use Rattle.ps_model.specs.declared.rules.Part.TheVariants.{Plain, Late}
use Rattle.ps_model.specs.names.Names.{Names, is_among, players}
use Rattle.ps_model.specs.board.Grid.{Grid, at_rest, cell_at, cell_count}
use Rattle.ps_model.specs.board.Movement.{slid}
use Rattle.ps_model.specs.session.Frames.{objects_in}
use Rattle.ps_model.specs.board.Inputs.{with_input}
use Rattle.ps_model.specs.rules.SourceRules.{Commands, no_commands}
use Rattle.ps_model.specs.board.Attempts.{State, same_cell}
use Rattle.ps_model.specs.board.Programs.{Section, program_run}
use Rattle.ps_model.specs.board.RulePrograms.{program_of}
use Rattle.ps_model.specs.declared.options.Options.{Options}
use Rattle.ps_model.specs.session.LevelLines.{Entry}
use Rattle.ps_model.specs.board.Wins.{Win}
use Rattle.ps_model.specs.board.Winning.{won}
use Rattle.ps_model.specs.game.Games.{Game}

-- a game as it is played: its rules are two programs, and it begins at one of its entries
pub record Script : Type 0 where
  pub title : List ℕ
  pub options : Options
  pub names : Names
  pub plain : List Section
  pub late : List Section
  pub entries : List Entry
  -- the place among them at which the game begins
  pub first_entry : ℕ
  pub wins : List Win

-- a game that begins at that entry, with its rules as they are written
abbrev pub script_at : Game → ℕ → Script
script_at game entry = record {
  title = game.title;
  options = game.options;
  names = game.names;
  plain = program_of game.names Plain game.rules;
  late = program_of game.names Late game.rules;
  entries = game.entries;
  first_entry = entry;
  wins = game.wins;
}

-- a game from its start: it begins at the first of its entries
abbrev pub script_of : Game → Script
script_of game = script_at game 0

-- a turn that is done: the board; whether it differs from that before; the first message; and whether a checkpoint is
-- set, the level is won, and the turn is to come again
pub record Done : Type 0 where
  pub board : Grid
  pub changed : Bool
  pub message : Option (List ℕ)
  pub checkpoint : Bool
  pub win : Bool
  pub again : Bool

-- what comes of a turn: it is blocked, or the level restarts, each with a message or without; or it is done
pub data Outcome : Type 0 where
  Blocked : Option (List ℕ) → Outcome
  Restarted : Option (List ℕ) → Outcome
  Finished : Done → Outcome

-- players -------------------------------------------------------------------------------------------------------------

-- an object of Player stands in the cell
abbrev pub has_player : Names → List Slot → Bool
has_player names cell = list_any (is_among (players names)) (objects_in cell)

-- the cells in which one stands
abbrev pub player_cells : Names → Grid → List ℕ
player_cells names g = filter (λ cell. has_player names (cell_at g cell)) (range_with_len 0 (cell_count g))

-- there was a Player, and each cell that had one still has one
abbrev pub stayed : Names → Grid → List ℕ → Bool
stayed names after [] = false
stayed names after (cell ∷ cells) = list_all (λ each. has_player names (cell_at after each)) (cell ∷ cells)

-- the game asks for a move of the Player, and each cell that had one still has one
abbrev pub is_held : Script → Option Input → Grid → Grid → Bool
is_held script None before after = false
is_held script (Some input) before after = script.options.require_player_movement && stayed script.names after
    (player_cells script.names before)

-- the turn ------------------------------------------------------------------------------------------------------------

-- the grid with an input, or with none: every object at rest
abbrev pub prepared : Names → Option Input → Grid → Grid
prepared names None g = at_rest g
prepared names (Some input) g = with_input names input g

-- the state after the movement
abbrev pub moved : State → State
moved state = record { grid = slid state.grid; queue = state.queue }

-- the state after the plain program, the movement and the late program
abbrev pub played : Script → Option Input → Grid → State
played script input g =
    program_run script.late (moved (program_run script.plain
    (record { grid = prepared script.names input g; queue = no_commands })))

-- the cells of the grids are the same
abbrev pub same_cells : List (List Slot) → List (List Slot) → Bool
same_cells [] [] = true
same_cells [] (cell ∷ cells) = false
same_cells (cell ∷ cells) [] = false
same_cells (first ∷ firsts) (second ∷ seconds) = same_cell first second && same_cells firsts seconds

-- win conditions are written, and all hold
abbrev pub is_won : List Win → Grid → Bool
is_won [] g = false
is_won (win ∷ wins) g = won (win ∷ wins) g

-- a turn that is done, by its last state and whether the board has changed
abbrev pub done_with : Script → State → Bool → Done
done_with script last changed =
    let queue : Commands = last.queue in
    record {
      board = last.grid;
      changed = changed;
      message = queue.message;
      checkpoint = queue.checkpoint;
      win = queue.win || is_won script.wins last.grid;
      again = queue.again && changed;
    }

-- the outcome of a turn whose last state this is: blocked, where the game asks for a move of the Player, and each cell
-- that had one still has one; blocked by `cancel`; restarted by `restart`; or done
abbrev pub outcome_of : Script → Option Input → Grid → State → Outcome
outcome_of script input g last =
    if is_held script input g last.grid then Blocked None
    else (if last.queue.cancel then Blocked last.queue.message
    else (if last.queue.restart then Restarted last.queue.message
    else Finished (done_with script last (not (same_cells g.cells last.grid.cells)))))

-- a turn with an input, or without one
unfoldable pub turn : Script → Option Input → Grid → Outcome
turn script input g = outcome_of script input g (played script input g)
