-- A run of a program, as definitions see it: what they see of the workspace that it lends to each attempt.
use Rattle.std.specs.Prelude.{length}
use Rattle.ps_model.specs.board.Attempts.{State}
use Rattle.ps_board.specs.declared.board.Board.{Ghosts as Board}
use Rattle.ps_board.specs.declared.words.ColumnWords.{Ghosts as ColumnWords}
use Rattle.ps_match.specs.FixedParts.{fixed_part}
use Rattle.ps_engine.specs.Workspaces.{FixedIn}
use Rattle.ps_engine.specs.declared.runs.Run.{Run}

-- the fixed part of its board; for how many rows there is scratch memory; and what is lent
abbrev pub fixed_in_run : {B Words : Type 0} {words : ColumnWords Words} → (kind : Board B Words) → Run B Words kind words → FixedIn
fixed_in_run kind run = record {
  board = fixed_part kind run.board.now;
  rows = length run.scratch.now;
  board_lent = run.board.ghost_name;
  queue_lent = run.queue.ghost_name;
  scratch_lent = run.scratch.ghost_name;
}

-- the grid of its board, and its queue
abbrev pub state_of_run : {B Words : Type 0} {words : ColumnWords Words} → (kind : Board B Words) → Run B Words kind words → State
state_of_run kind run = record { grid = kind.grid run.board.now; queue = run.queue.now }
