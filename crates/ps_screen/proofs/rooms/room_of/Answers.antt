use Rattle.std.proofs.Common.{◌∙◌, ℕ, Option, sym, ap}
use Rattle.std.specs.Prelude.{option_map, unwrap_or}
use Rattle.ps_model.specs.session.Rooms.{room_of_cell}
use Rattle.ps_screen.proofs.rooms.room_of.Goals as goal

pub returns : goal.returns
returns g c =
    let grid = g.B.Board.grid c.args.board.now in
    ap (λ (h : ℕ). room_of_cell c.args.size h c.in-Some.cell) c.size-height.ensures.height
    ∙ ap (λ (found : Option ℕ). unwrap_or (option_map (room_of_cell c.args.size grid.height) found) c.args.last)
    (sym c.in-Some.is ∙ c.first_player_cell.ensures)
