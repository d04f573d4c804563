use Rattle.std.proofs.Common.{◌<◌, ◌≤◌, ◌∙◌, ℕ, ap, length, arith}
use Rattle.ps_rows.specs.RowDifferences.{row_changed}
use Rattle.ps_rows.proofs.RowDifferences.{rows_all, rows_more}
use Rattle.ps_rows.proofs.row_differences.change_rows.Goals as goal

pub loop-difference-preserved : goal.loop-difference-preserved
loop-difference-preserved g c =
    let below : c.loop-difference.difference-index < length c.args.rows.now = omega arith in (
      rows_more c.args.planes.now.height c.loop-difference.planes.words.items c.change_row.new.planes.words.items
          c.args.rows.now c.loop-difference.difference-index c.difference-item.result _ below
          (c.change_row.ensures.words ∙ ap (λ (h : ℕ).
          row_changed h c.loop-difference.planes.words.items c.difference-item.result) c.loop-difference.invariant.1
          ∙ ap (row_changed c.args.planes.now.height c.loop-difference.planes.words.items) c.difference-item.is)
          c.loop-difference.invariant.0,
      c.change_row.ensures.height ∙ c.loop-difference.invariant.1,
      c.change_row.ensures.count ∙ c.loop-difference.invariant.2,
    )

pub returns-clause-words : goal.returns-clause-words
returns-clause-words g c =
    let end : length c.args.rows.now ≤ c.loop-difference.difference-index = omega arith in
    rows_all c.args.planes.now.height c.loop-difference.planes.words.items c.args.rows.now
    c.loop-difference.difference-index _ end c.loop-difference.invariant.0

pub returns-clause-height : goal.returns-clause-height
returns-clause-height g c = c.loop-difference.invariant.1

pub returns-clause-count : goal.returns-clause-count
returns-clause-count g c = c.loop-difference.invariant.2
