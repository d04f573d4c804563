use Rattle.std.proofs.Common.{◌∙◌, ap}
use Rattle.ps_view.specs.Corners.{row_part}
use Rattle.ps_view.specs.declared.frame_rows.FrameRow.{FrameRow}
use Rattle.ps_view.proofs.FrameRows.{made_more}
use Rattle.ps_view.proofs.parts.add_row_parts.Goals as goal

pub loop-row-preserved : goal.loop-row-preserved
loop-row-preserved c =
    made_more (row_part c.args.across.width c.args.across.room c.args.across.left) c.args.rows.now
    c.loop-row.row-index c.row-item.result c.characters.result.now c.args.screen.now.items c.loop-row.screen.items _
    c.loop-row-test.true c.row-item.is
    (c.characters.ensures ∙ ap (λ (row : FrameRow). row.text) c.deref.ensures) c.loop-row.invariant
    c.in_ok-add_row_part.ensures
