use Rattle.std.proofs.Common.{◌∙◌, ap}
use Rattle.std.specs.Prelude.{find}
use Rattle.ps_rows.specs.Planes.{has_cell}
use Rattle.ps_rows.proofs.row_board.RowBoard.object_number.Goals as goal

pub first_plane-requires : goal.first_plane-requires
first_plane-requires g c = rw c.in_range.ensures c.range_for-range.ensures.planes

pub returns : goal.returns
returns g c =
    let b = c.args.self.now in
    c.first_plane.ensures
    ∙ ap (find (has_cell b.planes.height b.planes.words.items c.args.cell)) c.in_range.ensures
    ∙ c.range_for-range.ensures.object
