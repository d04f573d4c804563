use Rattle.std.proofs.Common.{◌≡◌, ◌∙◌, ◌++◌, List, refl, sym, ap, ap₂}
use Rattle.ps_model.specs.declared.rooms.Room.{Room}
use Rattle.ps_model.specs.board.Grid.{Grid}
use Rattle.ps_model.specs.session.Rooms.{frame_in}
use Rattle.ps_board.specs.Histories.{BoardShown}
use Rattle.ps_stage.specs.Standings.{Basis, StageValue, Standing}
use Rattle.ps_session.specs.Histories.{grids_of}
use Rattle.ps_session.proofs.UndoneSteps.{latest_grid, latest_on_table, undone_nowhere, undone_to}
use Rattle.ps_session.proofs.levels.undoes.Goals as goal

pub level_at-requires : goal.level_at-requires
level_at-requires g c = record {
  table = latest_on_table (g.B.Board.table_for c.args.stage.now.game.names.layers)
      (g.H.History.boards c.args.history.now)
      (record { table = g.B.Board.table c.in-Some.latest.now; grid = g.B.Board.grid c.in-Some.latest.now })
      c.requires.boards c.in-Some.ensures.some ∙ sym (ap (λ (own : Basis). own.table) c.requires.basis);
  names = ap (λ (own : Basis). own.names) c.requires.basis;
}

pub returns-in-Ok : goal.returns-in-Ok
returns-in-Ok g c =
    let stage = c.args.stage.now in
    let boards : List BoardShown = g.H.History.boards c.args.history.now in
    let latest : BoardShown = record {
      table = g.B.Board.table c.in-Some.latest.now;
      grid = g.B.Board.grid c.in-Some.latest.now;
    } in
    let back = c.in_ok-back.back in
    let told : c.show-2.new.self.text ≡ stage.text
    ++ frame_in stage.game.options.flickscreen stage.game.names latest.grid c.room_after-room.result =
    c.in-Ok.ensures.shown
    ∙ ap (λ (stage : StageValue). stage.text
    ++ frame_in stage.game.options.flickscreen stage.game.names back.board back.room) c.in_ok-back.ensures.stage
    ∙ ap₂ (λ (board : Grid) (room : Room). stage.text
    ++ frame_in stage.game.options.flickscreen stage.game.names board room) c.in_ok-back.ensures.board
    c.in_ok-back.ensures.room in
    record {
      game = c.in-Ok.ensures.game ∙ ap (λ (stage : StageValue). stage.game) c.in_ok-back.ensures.stage;
      same = c.in_ok-back.ensures.level;
      came = λ plain late. undone_to stage.game plain late (grids_of boards) c.args.level.now c.show-2.new.level
          latest.grid c.room.result c.room_after-room.result stage.text c.show-2.new.self.text
          (latest_grid boards latest c.in-Some.ensures.some) c.room.ensures c.room_after-room.ensures c.requires.empty
          told
          (ap (λ (level : Standing). level.entry) c.in-Ok.ensures.level ∙ c.in_ok-back.ensures.entry)
          (ap (λ (level : Standing). level.board) c.in-Ok.ensures.level ∙ c.in_ok-back.ensures.board)
          (ap (λ (level : Standing). level.restart_board) c.in-Ok.ensures.level ∙ c.in_ok-back.ensures.restart_board)
          (ap (λ (level : Standing). level.room) c.in-Ok.ensures.level ∙ c.in_ok-back.ensures.room);
      basis = ap (λ (level : Standing). level.basis) c.in-Ok.ensures.level ∙ c.in_ok-back.ensures.basis
          ∙ c.requires.basis;
      boards = λ other. absurd (other (ap (λ (level : Standing). level.entry) c.in-Ok.ensures.level
          ∙ c.in_ok-back.ensures.entry));
      touched = tt;
    }

pub returns-in_default : goal.returns-in_default
returns-in_default g c = record {
  game = c.in_ok-show.ensures.game;
  same = c.in_ok-show.ensures.level;
  came = λ plain late. undone_nowhere c.args.stage.now.game plain late (g.H.History.boards c.args.history.now)
      c.args.level.now c.args.level.now.board c.args.level.now.room c.args.stage.now.text c.show.new.self.text
      (c.latest.ensures.none c.in_default.is) refl refl c.requires.empty c.in_ok-show.ensures.shown;
  basis = tt;
  boards = tt;
  touched = tt;
}
