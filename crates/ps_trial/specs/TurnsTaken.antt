-- Turns of the code, and the boards to which they come.
use Rattle.std.specs.Prelude.{Bool, true, false, ◌||◌, is_some}
use Rattle.ps_model.specs.board.Grid.{Grid}
use Rattle.ps_turn.specs.States.{done_shown}
use Rattle.ps_turn.specs.declared.outcomes.DoneTurn.{DoneTurn}
use Rattle.ps_turn.specs.declared.outcomes.Turned.{Turned}
use Rattle.ps_turn.specs.declared.outcomes.Turned.TheVariants.{Blocked, Restarted, Done}
use Rattle.ps_trial.specs.declared.counting.Counting.{Counting}
use Rattle.ps_trial.specs.declared.counting.Counting.TheVariants.{Always, IfChanged, IfChangedOrWon}
use Rattle.ps_trial.specs.SilentStarts.{Boards, boards_with}

-- whether a done turn counts
abbrev pub counts : Counting → DoneTurn → Bool
counts Always done = true
counts IfChanged done = done.changed
counts IfChangedOrWon done = done.changed || done.win

-- the boards after a turn that came to this grid, where only some done turns count
abbrev pub boards_taken : Counting → Turned DoneTurn → Boards → Grid → Boards
boards_taken counting (Blocked message) boards g = boards
boards_taken counting (Restarted message) boards g = boards
boards_taken counting (Done done) boards g =
    elim (counts counting done) [ true ↦ boards_with boards (done_shown done g) | false ↦ boards ]

-- the board after that turn
abbrev pub board_taken : Counting → Turned DoneTurn → Grid → Grid → Grid
board_taken counting (Blocked message) board g = board
board_taken counting (Restarted message) board g = board
board_taken counting (Done done) board g = elim (counts counting done) [ true ↦ g | false ↦ board ]

-- the turn brings a message
abbrev pub tells_of : Turned DoneTurn → Bool
tells_of (Blocked message) = is_some message
tells_of (Restarted message) = is_some message
tells_of (Done done) = is_some done.message

-- the turn is done, and to come again
abbrev pub is_again : Turned DoneTurn → Bool
is_again (Blocked message) = false
is_again (Restarted message) = false
is_again (Done done) = done.again
