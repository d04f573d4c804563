-- An undo, and the boards that it goes back to.
use Rattle.std.proofs.Common.{◌≡◌, ◌∙◌, ◌++◌, ◌-◌, ℕ, zero, suc, Option, Some, List, [], ◌∷◌}
use Rattle.std.proofs.Common.{length, take, refl, sym, ap}
use Rattle.std.specs.Prelude.{slice_get}
use Rattle.std.proofs.lemmas.List.{length-map}
use Rattle.std.proofs.lemmas.List.Elements.{All-head, All-tail}
use Rattle.std.proofs.lemmas.Option.{none-some, same_Some, slice_get-map}
use Rattle.ps_model.specs.declared.rooms.Room.{Room}
use Rattle.ps_model.specs.board.Grid.{Grid}
use Rattle.ps_model.specs.board.Programs.{Section}
use Rattle.ps_model.specs.session.KeySteps.{back_at, undone}
use Rattle.ps_model.specs.session.Rooms.{frame_in, room_after}
use Rattle.ps_model.specs.session.Sessions.{Play, Playing, Session, shown}
use Rattle.ps_board.specs.Histories.{BoardShown, latest_board}
use Rattle.ps_stage.specs.Standings.{SessionParts, Standing, play_of, script_of}
use Rattle.ps_stage.specs.StepsShown.{came}
use Rattle.ps_session.specs.Histories.{AreOnTable, grids_of}

-- a board of the history has its table
found_on_table : (table : Option (List ℕ)) (boards : List BoardShown) (n : ℕ) (found : BoardShown) →
    AreOnTable table boards → slice_get boards n ≡ Some found → found.table ≡ table
found_on_table table [] n found on is = absurd (none-some found is)
found_on_table table (board ∷ boards) zero found on is =
    ap (λ (shown : BoardShown). shown.table) (sym (same_Some board found is))
    ∙ All-head (λ shown. shown.table ≡ table) board boards on
found_on_table table (board ∷ boards) (suc n) found on is =
    found_on_table table boards n found (All-tail (λ shown. shown.table ≡ table) board boards on) is

pub latest_on_table : (table : Option (List ℕ)) (boards : List BoardShown) (latest : BoardShown) →
    AreOnTable table boards → latest_board boards ≡ Some latest → latest.table ≡ table
latest_on_table table boards latest on is = found_on_table table boards (length boards - 1) latest on is

-- the latest board shows the latest grid
pub latest_grid : (boards : List BoardShown) (latest : BoardShown) → latest_board boards ≡ Some latest →
    slice_get (grids_of boards) (length (grids_of boards) - 1) ≡ Some latest.grid
latest_grid boards latest is = rw (length-map, slice_get-map, is) refl

-- the step of a level that has another board, or its own, whatever frames and rooms are
went_back : (frame : Grid → Room → List ℕ) (rooms : Grid → Room → Room) (grids : List Grid) (level back : Standing)
    (latest : Grid) (last room : Room) (before text : List ℕ) → last ≡ level.room → room ≡ rooms latest last →
    before ≡ [] → text ≡ before ++ frame latest room → back.entry ≡ level.entry → back.board ≡ latest →
    back.restart_board ≡ level.restart_board → back.room ≡ room →
    came (Playing (record {
      entry = level.entry;
      board = latest;
      history = grids;
      restart_board = level.restart_board;
      room = rooms latest level.room;
    })) (frame latest (rooms latest level.room)) ≡ came (Playing (play_of grids back)) text
went_back frame rooms grids level back latest last room before text seen shows empty told entry board restart there =
    rw (entry, board, restart, there, told, empty, shows, seen) refl

stayed : (frame : Grid → Room → List ℕ) (session : Session) (level : Standing) (board : Grid) (room : Room)
    (before text : List ℕ) → board ≡ level.board → room ≡ level.room → before ≡ [] → text ≡ before ++ frame board room →
    came session (frame level.board level.room) ≡ came session text
stayed frame session level board room before text same there empty told = rw (told, empty, same, there) refl

-- the level goes back to the latest board
pub undone_to : (game : SessionParts) (plain late : List Section) (grids : List Grid) (level back : Standing)
    (latest : Grid) (last room : Room) (before text : List ℕ) → slice_get grids (length grids - 1) ≡ Some latest →
    last ≡ level.room → room ≡ room_after game.options.flickscreen game.names latest last → before ≡ [] →
    text ≡ before ++ frame_in game.options.flickscreen game.names latest room → back.entry ≡ level.entry →
    back.board ≡ latest → back.restart_board ≡ level.restart_board → back.room ≡ room →
    undone (script_of game plain late) (play_of grids level)
    ≡ came (Playing (play_of (take (length grids - 1) grids) back)) text
undone_to game plain late grids level back latest last room before text is seen shows empty told entry board restart
    there =
    ap (λ (found : Option Grid). let play : Play = back_at (script_of game plain late) (play_of grids level) found in
    came (Playing play) (shown (script_of game plain late) play)) is
    ∙ went_back (frame_in game.options.flickscreen game.names) (room_after game.options.flickscreen game.names)
    (take (length grids - 1) grids) level back latest last room before text seen shows empty told entry board restart
    there

-- without a board it stays as it is
pub undone_nowhere : (game : SessionParts) (plain late : List Section) (boards : List BoardShown) (level : Standing)
    (board : Grid) (room : Room) (before text : List ℕ) → boards ≡ [] → board ≡ level.board → room ≡ level.room →
    before ≡ [] → text ≡ before ++ frame_in game.options.flickscreen game.names board room →
    undone (script_of game plain late) (play_of (grids_of boards) level)
    ≡ came (Playing (play_of (grids_of boards) level)) text
undone_nowhere game plain late boards level board room before text none same there empty told =
    ap (λ (boards : List BoardShown). undone (script_of game plain late) (play_of (grids_of boards) level)) none
    ∙ stayed (frame_in game.options.flickscreen game.names) (Playing (play_of [] level)) level board room before text
    same there empty told
    ∙ ap (λ (boards : List BoardShown). came (Playing (play_of (grids_of boards) level)) text) (sym none)
