use Rattle.std.proofs.Common.{◌*◌, ◌∙◌, ap}
use Rattle.std.specs.Prelude.{option_map}
use Rattle.ps_rows.specs.Showing.{numbered}
use Rattle.ps_rows.proofs.Rests.{object_read}
use Rattle.ps_rows.proofs.Whole.{shown_room}
use Rattle.ps_rows.proofs.row_board.RowBoardBoard.object.Goals as goal

pub returns-clause-value : goal.returns-clause-value
returns-clause-value g c =
    let b = c.args.self.now in
    c.object_of.ensures ∙ ap (option_map numbered) c.object_number.ensures
    ∙ object_read b.members.table.items b.layers b.planes.height b.planes.words.items (b.width * b.planes.height)
    c.args.cell c.args.layer.0 c.requires.0 c.requires.1

pub returns-clause-room : goal.returns-clause-room
returns-clause-room g c =
    let b = c.args.self.now in
    shown_room b.members.table.items b.planes.height b.planes.words.items c.args.cell c.args.layer.0 c.object_of.result
    (c.object_of.ensures ∙ ap (option_map numbered) c.object_number.ensures)
