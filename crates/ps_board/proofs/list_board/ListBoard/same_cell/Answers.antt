use Rattle.std.proofs.Common.{◌∙◌, ap, map, sym}
use Rattle.ps_model.specs.board.Grid.{object_in}
use Rattle.ps_board.proofs.SameRows.{same_objects}
use Rattle.ps_board.proofs.list_board.ListBoard.same_cell.Goals as goal

pub returns : goal.returns
returns c = λ h.
    ap (map object_in) (sym c.cell_slots.ensures.cell)
    ∙ same_objects c.cell_slots.result.now c.cell_slots-2.result.now (sym c.same_slots.ensures ∙ h)
    ∙ ap (map object_in) c.cell_slots-2.ensures.cell
