use Rattle.std.proofs.Common.{rules, ◌≡◌, ◌∙◌, ◌∷◌, [], ◌++◌, List, ap, sym, length, map, Some}
use Rattle.std.specs.Borrow.{Bor}
use Rattle.std.specs.Global.{Vec}
use Rattle.std.proofs.lemmas.List.{append-nil}
use Rattle.ps_model.specs.declared.pieces.ObjectId.{ObjectId}
use Rattle.ps_model.specs.declared.faults.Fault.{Fault as TheFault}
use Rattle.ps_model.specs.declared.refusal.Refusal.{Refusal}
use Rattle.ps_model.specs.declared.refusal.Refusal.TheVariants.{Refused}
use Rattle.ps_model.specs.text.Faults.{first_fault}
use Rattle.ps_model.specs.text.Lines.{Line}
use Rattle.ps_model.specs.text.LineNumbers.{here, line_at}
use Rattle.ps_model.specs.session.LevelFaults.{row_faults, rows_faults}
use Rattle.ps_model.specs.session.LevelLines.{row_cells}
use Rattle.ps_laws.proofs.common.LinesInOrder.{here-there, here-not}
use Rattle.ps_names.proofs.common.Refused.{refused-reads-as}
use Rattle.ps_levels.specs.Cells.{cells_shown, rows_shown}
use Rattle.ps_levels.proofs.EntrySteps.{shown-more}
use Rattle.ps_levels.proofs.Refusals.{memory-reads-as}
use Rattle.ps_levels.proofs.rows.add_row.Goals as goal

pub returns-in_err-row : goal.returns-in_err-row
returns-in_err-row c =
    let names = c.args.names.now in
    let line : Line = line_at c.args.source.now c.args.line in
    let lines = here c.args.source.now c.args.line in
    let only : lines ≡ line ∷ [] =
    here-there c.args.source.now c.args.line (sym c.is_there.ensures ∙ c.if-not-is_there.false) in
    let long : length c.args.rows.now.items ≡ c.len.result = search rules in
    let fault : Refusal = c.in_err-row.field-0.0 in
    let told : (f : TheFault) → fault ≡ Refused f →
    first_fault (rows_faults names c.args.width (length c.args.rows.now.items) lines) ≡ Some f =
    λ f e. ap (λ (ls : List Line). first_fault (rows_faults names c.args.width (length c.args.rows.now.items) ls)) only
    ∙ ap first_fault (append-nil (row_faults names c.args.width (length c.args.rows.now.items) line))
    ∙ ap (λ place. first_fault (row_faults names c.args.width place line)) long ∙ c.in_err-row.ensures.1.1 f e in
    refused-reads-as (λ _. rows_shown c.args.rows.now.items) c.from_residual.result fault
    (rows_shown c.args.rows.now.items ++ map (row_cells names c.args.width) lines)
    (rows_faults names c.args.width (length c.args.rows.now.items) lines) c.from_residual.ensures.1 told

pub returns-in_err-push : goal.returns-in_err-push
returns-in_err-push c =
    let names = c.args.names.now in
    let lines = here c.args.source.now c.args.line in
    memory-reads-as (λ _. rows_shown c.push.new.self.items) c.from_residual-in_err-push.result
    (rows_shown c.args.rows.now.items ++ map (row_cells names c.args.width) lines)
    (rows_faults names c.args.width (length c.args.rows.now.items) lines) c.from_residual-in_err-push.ensures.1

pub returns-then-not-is_there : goal.returns-then-not-is_there
returns-then-not-is_there c =
    let names = c.args.names.now in
    let before = rows_shown c.args.rows.now.items in
    let none : here c.args.source.now c.args.line ≡ [] =
    here-not c.args.source.now c.args.line (sym c.is_there.ensures ∙ c.if-not-is_there.true) in (
      sym (append-nil before) ∙ ap (λ (ls : List Line). before ++ map (row_cells names c.args.width) ls) (sym none),
      (ap (rows_faults names c.args.width (length c.args.rows.now.items)) none, tt),
    )

pub returns : goal.returns
returns c =
    let names = c.args.names.now in
    let line : Line = line_at c.args.source.now c.args.line in
    let place = length c.args.rows.now.items in
    let only : here c.args.source.now c.args.line ≡ line ∷ [] =
    here-there c.args.source.now c.args.line (sym c.is_there.ensures ∙ c.if-not-is_there.false) in
    let long : length c.args.rows.now.items ≡ c.len.result = search rules in (
      shown-more (λ (row : Vec (Bor (List ObjectId))). cells_shown row.items) c.args.rows.now.items
          c.push.new.self.items c.in_ok-row.row (row_cells names c.args.width line) c.in_ok-push.ensures.items
          c.in_ok-row.ensures.0
          ∙ ap (λ (ls : List Line). rows_shown c.args.rows.now.items ++ map (row_cells names c.args.width) ls)
          (sym only),
      (
        ap (rows_faults names c.args.width place) only ∙ append-nil (row_faults names c.args.width place line)
            ∙ ap (λ n. row_faults names c.args.width n line) long ∙ c.in_ok-row.ensures.1.0,
        tt,
      ),
    )
