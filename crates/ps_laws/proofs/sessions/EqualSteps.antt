-- Steps that are equal, and whose boards are such grids: what they are made of.
use Rattle.std.proofs.Common.{◌≡◌, ℕ, ◌-◌, Bool, true, false, Option, Some, None, List, [], ◌∷◌, ◌++◌, length}
use Rattle.std.proofs.Common.{slice_get, refl, ◌∙◌, ap}
use Rattle.std.specs.Prelude.{All, ⊤}
use Rattle.std.proofs.lemmas.List.Elements.{All-nil, All-cons, All-append, All-drop, All-take}
use Rattle.ps_model.specs.declared.limits.TheConstants.{HISTORY_LIMIT}
use Rattle.ps_model.specs.declared.play.Input.{Input}
use Rattle.ps_model.specs.names.Names.{Names}
use Rattle.ps_model.specs.board.Grid.{Grid}
use Rattle.ps_model.specs.board.Levels.{loaded}
use Rattle.ps_model.specs.board.Programs.{Section}
use Rattle.ps_model.specs.board.Turns.{Script, Done, Outcome, turn}
use Rattle.ps_model.specs.session.LevelLines.{Entry, MessageEntry, LevelEntry}
use Rattle.ps_model.specs.session.Sessions.{Play, Step, after, seen, with_board_in_history, with_turn, with_board}
use Rattle.ps_model.specs.session.KeySteps.{with_board_in_history_if, back_at}
use Rattle.ps_laws.specs.SessionBoards.{AreBoards, AreBoardsIn, HasBoard}
use Rattle.ps_laws.specs.AlikeScripts.{EqualOutcomes, EqualSteps}
use Rattle.ps_laws.proofs.common.Everywhere.{either_one, All-slice_get}

-- the script with other rules
abbrev pub with_rules : Script → List Section → List Section → Script
with_rules a plain late = record {
  title = a.title;
  options = a.options;
  names = a.names;
  plain = plain;
  late =
      late;
  entries = a.entries;
  first_entry = a.first_entry;
  wins = a.wins;
}

-- the entry is a level that is loaded as such a grid, or a message
abbrev pub LoadsAs : (Grid → Type 0) → Names → Entry → Type 0
LoadsAs IsSuch names (MessageEntry text) = ⊤
LoadsAs IsSuch names (LevelEntry level) = IsSuch (loaded names level)

-- the turns of both scripts are equal on such grids, and make such grids; levels are loaded as such grids
pub record EqualTurns (IsSuch : Grid → Type 0) (a b : Script) : Type 0 where
  pub turns : (input : Option Input) (g : Grid) → IsSuch g → EqualOutcomes IsSuch (turn a input g) (turn b input g)
  pub levels : All (LoadsAs IsSuch a.names) a.entries

module _ (IsSuch : Grid → Type 0) where
  -- steps from a level with such boards are equal
  abbrev pub FromLevels : (Play → Step) → (Play → Step) → Type 0
  FromLevels f g = (play : Play) → AreBoards IsSuch play → EqualSteps IsSuch (f play) (g play)

  -- steps -------------------------------------------------------------------------------------------------------------

  pub same_step : (step : Step) → AreBoardsIn IsSuch step.session → EqualSteps IsSuch step step
  same_step step h = record { equal = refl; boards = h }

  pub after-equal : (text : List ℕ) (x y : Step) → EqualSteps IsSuch x y →
      EqualSteps IsSuch (after text x) (after text y)
  after-equal text x y h = record { equal = ap (after text) h.equal; boards = h.boards }

  -- steps by equal outcomes
  pub by_outcome : (x y : Outcome) → EqualOutcomes IsSuch x y → (f g : Outcome → Step) →
      ((outcome : Outcome) → HasBoard IsSuch outcome → EqualSteps IsSuch (f outcome) (g outcome)) →
      EqualSteps IsSuch (f x) (g y)
  by_outcome x y h f g each = record { equal = (each x h.board).equal ∙ ap g h.equal; boards = (each x h.board).boards }

  -- boards ------------------------------------------------------------------------------------------------------------

  pub with_turn-boards : (play : Play) (done : Done) → AreBoards IsSuch play → IsSuch done.board →
      AreBoards IsSuch (with_turn play done)
  with_turn-boards play done h board = record {
    board = board;
    history = h.history;
    restart_board =
        either_one IsSuch done.checkpoint done.board play.restart_board board h.restart_board;
  }

  pub with_restart_board-boards : (play : Play) → AreBoards IsSuch play →
      AreBoards IsSuch (with_board play play.restart_board)
  with_restart_board-boards play h = record {
    board = h.restart_board;
    history = h.history;
    restart_board =
        h.restart_board;
  }

  pub with_board_in_history-boards : (play : Play) → AreBoards IsSuch play →
      AreBoards IsSuch (with_board_in_history play)
  with_board_in_history-boards play h =
      let boards : List Grid = play.history ++ play.board ∷ [] in
      record {
        board = h.board;
        history = All-drop IsSuch (length boards - HISTORY_LIMIT) boards
            (All-append IsSuch play.history (play.board ∷ []) h.history
            (All-cons IsSuch play.board [] h.board (All-nil IsSuch)));
        restart_board = h.restart_board;
      }

  pub with_board_in_history_if-boards : (changed : Bool) (play : Play) → AreBoards IsSuch play →
      AreBoards IsSuch (with_board_in_history_if changed play)
  with_board_in_history_if-boards true play h = with_board_in_history-boards play h
  with_board_in_history_if-boards false play h = h

  pub seen-boards : (script : Script) (play : Play) → AreBoards IsSuch play → AreBoards IsSuch (seen script play)
  seen-boards script play h = record { board = h.board; history = h.history; restart_board = h.restart_board }

  pub back_at-boards : (script : Script) (play : Play) (found : Option Grid) →
      slice_get play.history (length play.history - 1) ≡ found → AreBoards IsSuch play →
      AreBoards IsSuch (back_at script play found)
  back_at-boards script play None e h = h
  back_at-boards script play (Some latest) e h = record {
    board = All-slice_get IsSuch play.history (length play.history - 1) latest h.history e;
    history = All-take IsSuch (length play.history - 1) play.history h.history;
    restart_board = h.restart_board;
  }
