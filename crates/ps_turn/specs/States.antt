-- The queue and the outcome of the code as those of the definitions, and the script of a game whose rules are these
-- programs.
use Rattle.std.specs.Prelude.{List, [], Bool, true, false, ◌≡◌}
use Rattle.ps_model.specs.declared.options.Options.{Options}
use Rattle.ps_model.specs.names.Names.{Names}
use Rattle.ps_model.specs.rules.SourceRules.{Commands}
use Rattle.ps_model.specs.board.Grid.{Grid}
use Rattle.ps_model.specs.board.Attempts.{State}
use Rattle.ps_model.specs.board.Programs.{Section}
use Rattle.ps_model.specs.board.Wins.{Win}
use Rattle.ps_model.specs.board.Turns as model
use Rattle.ps_turn.specs.declared.queue.Queue.{Queue}
use Rattle.ps_turn.specs.declared.outcomes.DoneTurn.{DoneTurn}
use Rattle.ps_turn.specs.declared.outcomes.Turned.{Turned}
use Rattle.ps_turn.specs.declared.outcomes.Turned.TheVariants.{Blocked, Restarted, Done}

-- the commands of a queue
abbrev pub queue_shown : Queue → Commands
queue_shown queue = record {
  cancel = queue.cancel;
  restart = queue.restart;
  again = queue.again;
  checkpoint = queue.checkpoint;
  win = queue.win;
  message = queue.message;
}

-- a grid and a queue
abbrev pub state_of : Grid → Commands → State
state_of g queue = record { grid = g; queue = queue }

-- what of a game its turns look at
pub record TurnParts : Type 0 where
  pub names : Names
  pub options : Options
  pub wins : List Win

-- a game of these parts whose rules are these programs; a turn looks at nothing else of it
abbrev pub script_with : TurnParts → List Section → List Section → model.Script
script_with parts plain late = record {
  title = [];
  options = parts.options;
  names = parts.names;
  plain = plain;
  late = late;
  entries = [];
  first_entry = 0;
  wins = parts.wins;
}

-- a done turn that came to this grid
abbrev pub done_shown : DoneTurn → Grid → model.Done
done_shown done g = record {
  board = g;
  changed = done.changed;
  message = done.message;
  checkpoint = done.checkpoint;
  win = done.win;
  again = done.again;
}

-- an outcome, where the board on which the turn worked shows this grid
abbrev pub outcome_shown : Turned DoneTurn → Grid → model.Outcome
outcome_shown (Blocked message) g = model.Blocked message
outcome_shown (Restarted message) g = model.Restarted message
outcome_shown (Done done) g = model.Finished (done_shown done g)

-- the turn is done
abbrev pub is_done : Turned DoneTurn → Bool
is_done (Blocked message) = false
is_done (Restarted message) = false
is_done (Done done) = true

-- two grids have the same sides and as many layers
pub record HaveSameSides (first second : Grid) : Type 0 where
  pub width : first.width ≡ second.width
  pub height : first.height ≡ second.height
  pub layers : first.layers ≡ second.layers
