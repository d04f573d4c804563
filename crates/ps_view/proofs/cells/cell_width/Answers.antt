use Rattle.std.proofs.Common.{◌∙◌, ℕ, ap, arith, max}
use Rattle.ps_view.specs.Corners.{widest}
use Rattle.ps_view.specs.declared.frame_rows.FrameRow.{FrameRow}
use Rattle.ps_view.proofs.FrameRows.{wider}
use Rattle.ps_view.proofs.cells.cell_width.Goals as goal

pub loop-row-preserved : goal.loop-row-preserved
loop-row-preserved c =
    let before = c.loop-row.columns in
    record {
      widest = c.max-columns.ensures
          ∙ ap (λ (own : ℕ). max own before)
          (c.columns.ensures ∙ ap (λ (row : FrameRow). widest 1 row.text) c.deref.ensures)
          ∙ wider c.args.frame.now c.loop-row.row-index c.row-item.result before c.loop-row-test.true c.row-item.is
          c.loop-row.invariant.some c.loop-row.invariant.widest;
      some = omega (arith, c.max-columns.ensures, c.loop-row.invariant.some);
    }
