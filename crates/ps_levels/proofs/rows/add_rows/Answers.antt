use Rattle.std.proofs.Common.{◌≡◌, ◌++◌, ◌∙◌, ◌+◌, map, ap, sym, refl, arith, Some, length, List}
use Rattle.std.specs.Prelude.{Vec}
use Rattle.std.specs.Global.{Global}
use Rattle.std.specs.Borrow.{Bor}
use Rattle.ps_model.specs.declared.pieces.ObjectId.{ObjectId}
use Rattle.ps_model.specs.declared.faults.Fault.{Fault as TheFault}
use Rattle.ps_model.specs.text.Faults.{first_fault}
use Rattle.ps_model.specs.text.LineNumbers.{lines_between}
use Rattle.ps_model.specs.session.LevelFaults.{rows_faults}
use Rattle.ps_model.specs.session.LevelLines.{row_cells}
use Rattle.ps_model.specs.declared.refusal.Refusal.{Refusal}
use Rattle.ps_model.specs.declared.refusal.Refusal.TheVariants.{Refused}
use Rattle.ps_model.specs.text.LineNumbers.{here}
use Rattle.ps_levels.specs.Cells.{cells_shown, rows_shown}
use Rattle.ps_laws.proofs.common.LinesInOrder.{between-step}
use Rattle.ps_names.proofs.common.Refused.{refused-reads-as}
use Rattle.ps_levels.proofs.RowSteps.{first-of-rows, none-of-rows, rows-more, rows-counted}
use Rattle.ps_levels.proofs.rows.add_rows.Goals as goal

pub returns-in_err-add_row : goal.returns-in_err-add_row
returns-in_err-add_row c =
    let text = c.args.source.now in
    let names = c.args.names.now in
    let line = c.loop-line.line in
    let step = between-step text line (line + 1) c.args.lines.end (omega arith) (omega arith) (omega arith) refl in
    let fault : Refusal = c.in_err-add_row.field-0.0 in
    let told : (f : TheFault) → fault ≡ Refused f →
    first_fault (rows_faults names c.args.width (length c.args.rows.now.items)
    (lines_between text c.args.lines.start c.args.lines.end)) ≡ Some f =
    λ f e. ap first_fault (sym c.loop-line.invariant.fine)
    ∙ first-of-rows names c.args.width (length c.loop-line.rows.items) (lines_between text line c.args.lines.end)
    (here text line) (lines_between text (line + 1) c.args.lines.end) f step (c.in_err-add_row.ensures.1.1 f e) in
    refused-reads-as (λ _. rows_shown c.add_row.new.rows.items) c.from_residual.result fault
    (rows_shown c.args.rows.now.items
    ++ map (row_cells names c.args.width) (lines_between text c.args.lines.start c.args.lines.end))
    (rows_faults names c.args.width (length c.args.rows.now.items)
    (lines_between text c.args.lines.start c.args.lines.end)) c.from_residual.ensures.1 told

pub loop-line-preserved : goal.loop-line-preserved
loop-line-preserved c =
    let text = c.args.source.now in
    let names = c.args.names.now in
    let line = c.loop-line.line in
    let step = between-step text line (line + 1) c.args.lines.end (omega arith) (omega arith) (omega arith) refl in
    record {
      part =
          rows-more (row_cells names c.args.width) (rows_shown c.loop-line.rows.items)
          (rows_shown c.add_row.new.rows.items) (lines_between text line c.args.lines.end) (here text line)
          (lines_between text (line + 1) c.args.lines.end) step c.in_ok-add_row.ensures.0
          ∙ c.loop-line.invariant.part;
      fine =
          none-of-rows names c.args.width (length c.loop-line.rows.items) (length c.add_row.new.rows.items)
          (lines_between text line c.args.lines.end) (here text line)
          (lines_between text (line + 1) c.args.lines.end) step
          (rows-counted (λ (row : Vec (Bor (List ObjectId)) Global).
          cells_shown row.items) (row_cells names c.args.width) c.loop-line.rows.items c.add_row.new.rows.items
          (here text line) c.in_ok-add_row.ensures.0) c.in_ok-add_row.ensures.1.0
          ∙ c.loop-line.invariant.fine;
    }
