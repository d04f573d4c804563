use Rattle.std.proofs.Common.{rules, ◌≡◌, ◌∙◌, ◌+◌, ◌∷◌, [], ap, sym, refl, arith, Some, length, List, ℕ, false}
use Rattle.std.specs.Prelude.{Vec, nat_eq}
use Rattle.std.specs.Global.{Global}
use Rattle.std.specs.Borrow.{Bor}
use Rattle.std.proofs.lemmas.Bool.Decides.{nat_tests}
use Rattle.ps_model.specs.declared.pieces.ObjectId.{ObjectId}
use Rattle.ps_model.specs.declared.faults.Fault.{Fault as TheFault}
use Rattle.ps_model.specs.declared.faults.FaultKind.TheVariants.{TooManyEntries}
use Rattle.ps_model.specs.text.Faults.{first_fault}
use Rattle.ps_model.specs.declared.limits.TheConstants.{ENTRY_LIMIT}
use Rattle.ps_model.specs.text.LineNumbers.{line_at, lines_between}
use Rattle.ps_model.specs.text.Lines.{Line}
use Rattle.ps_model.specs.session.LevelFaults.{row_faults, rows_faults}
use Rattle.ps_model.specs.session.LevelLines.{row_cells}
use Rattle.ps_model.specs.declared.refusal.Refusal.{Refusal}
use Rattle.ps_model.specs.declared.refusal.Refusal.TheVariants.{Refused}
use Rattle.ps_levels.specs.Cells.{cells_shown}
use Rattle.ps_levels.specs.RowFaults.{level_faults_by}
use Rattle.ps_laws.proofs.common.LinesInOrder.{line_at-number}
use Rattle.ps_levels.proofs.LevelSteps.{one-line, fault-in-first, first-fine, fault-of-place, faults-below}
use Rattle.ps_levels.proofs.RowSteps.{rows-counted}
use Rattle.ps_levels.proofs.level.read_rows.Goals as goal

abbrev Row : Type 0
Row = Vec (Bor (List ObjectId)) Global

pub returns-in_err-add_rows : goal.returns-in_err-add_rows
returns-in_err-add_rows c =
    let text = c.args.source.now in
    let names = c.args.names.now in
    let first = line_at text c.args.lines.start in
    let below = lines_between text (c.args.lines.start + 1) c.args.lines.end in
    let lines = lines_between text c.args.lines.start (c.args.lines.start + 1) in
    let one : lines ≡ first ∷ [] = one-line text c.args.lines.start (c.args.lines.start + 1) c.requires.lines.from_one
    (omega arith) refl c.requires.row in
    let zero : length c.new-rows.result.items ≡ 0 = ap length c.new-rows.ensures.items in
    let fault : Refusal = c.in_err-add_rows.field-0.0 in
    let told : (f : TheFault) → fault ≡ Refused f →
    first_fault (level_faults_by names c.args.width c.args.place first below) ≡ Some f =
    λ f e. fault-in-first names c.args.width c.args.place first below lines f one
    (ap (λ (n : ℕ). first_fault (rows_faults names c.args.width n lines)) (sym zero)
    ∙ c.in_err-add_rows.ensures.1.1 f e) in
    search (rules, told)

pub returns-then-place : goal.returns-then-place
returns-then-place c = (
  tt,
  (
    tt,
    λ fault e.
        let text = c.args.source.now in
        let names = c.args.names.now in
        let first = line_at text c.args.lines.start in
        let below = lines_between text (c.args.lines.start + 1) c.args.lines.end in
        let lines = lines_between text c.args.lines.start (c.args.lines.start + 1) in
        let one : lines ≡ first ∷ [] = one-line text c.args.lines.start (c.args.lines.start + 1)
        c.requires.lines.from_one (omega arith) refl c.requires.row in
        let zero : length c.new-rows.result.items ≡ 0 = ap length c.new-rows.ensures.items in
        let fine : row_faults names c.args.width 0 first ≡ [] =
        first-fine names c.args.width first lines one
        (ap (λ (n : ℕ). rows_faults names c.args.width n lines) (sym zero) ∙ c.in_ok-add_rows.ensures.1.0) in
        let told : TheFault = record { kind = TooManyEntries; line = c.args.lines.start } in
        let same : told ≡ fault = cc in
        let over : c.args.place ≡ ENTRY_LIMIT = grind (arith, nat_tests) in
        fault-of-place names c.args.width c.args.place c.args.lines.start first below fine over
        (line_at-number text c.args.lines.start c.requires.lines.from_one (omega arith)) ∙ ap Some same,
  ),
)

pub returns-in_err-add_rows-2 : goal.returns-in_err-add_rows-2
returns-in_err-add_rows-2 c =
    let text = c.args.source.now in
    let names = c.args.names.now in
    let first = line_at text c.args.lines.start in
    let below = lines_between text (c.args.lines.start + 1) c.args.lines.end in
    let lines = lines_between text c.args.lines.start (c.args.lines.start + 1) in
    let one : lines ≡ first ∷ [] = one-line text c.args.lines.start (c.args.lines.start + 1) c.requires.lines.from_one
    (omega arith) refl c.requires.row in
    let zero : length c.new-rows.result.items ≡ 0 = ap length c.new-rows.ensures.items in
    let fine : row_faults names c.args.width 0 first ≡ [] =
    first-fine names c.args.width first lines one
    (ap (λ (n : ℕ). rows_faults names c.args.width n lines) (sym zero) ∙ c.in_ok-add_rows.ensures.1.0) in
    let counted : length c.add_rows.new.rows.items ≡ 1 =
    rows-counted (λ (row : Row). cells_shown row.items) (row_cells names c.args.width) c.new-rows.result.items
    c.add_rows.new.rows.items lines c.in_ok-add_rows.ensures.0
    ∙ ap (λ (n : ℕ). n + length lines) zero ∙ ap (λ (ls : List Line). 0 + length ls) one in
    let place : nat_eq c.args.place ENTRY_LIMIT ≡ false = grind (arith, nat_tests) in
    let fault : Refusal = c.in_err-add_rows-2.field-0.0 in
    let told : (f : TheFault) → fault ≡ Refused f →
    first_fault (level_faults_by names c.args.width c.args.place first below) ≡ Some f =
    λ f e. ap first_fault (faults-below names c.args.width c.args.place first below fine place)
    ∙ ap (λ (n : ℕ). first_fault (rows_faults names c.args.width n below)) (sym counted)
    ∙ c.in_err-add_rows-2.ensures.1.1 f e in
    search (rules, told)

pub returns : goal.returns
returns c =
    let text = c.args.source.now in
    let names = c.args.names.now in
    let first = line_at text c.args.lines.start in
    let below = lines_between text (c.args.lines.start + 1) c.args.lines.end in
    let lines = lines_between text c.args.lines.start (c.args.lines.start + 1) in
    let one : lines ≡ first ∷ [] = one-line text c.args.lines.start (c.args.lines.start + 1) c.requires.lines.from_one
    (omega arith) refl c.requires.row in
    let zero : length c.new-rows.result.items ≡ 0 = ap length c.new-rows.ensures.items in
    let fine : row_faults names c.args.width 0 first ≡ [] =
    first-fine names c.args.width first lines one
    (ap (λ (n : ℕ). rows_faults names c.args.width n lines) (sym zero) ∙ c.in_ok-add_rows.ensures.1.0) in
    let counted : length c.add_rows.new.rows.items ≡ 1 =
    rows-counted (λ (row : Row). cells_shown row.items) (row_cells names c.args.width) c.new-rows.result.items
    c.add_rows.new.rows.items lines c.in_ok-add_rows.ensures.0
    ∙ ap (λ (n : ℕ). n + length lines) zero ∙ ap (λ (ls : List Line). 0 + length ls) one in
    let place : nat_eq c.args.place ENTRY_LIMIT ≡ false = grind (arith, nat_tests) in (
      search rules,
      (
        faults-below names c.args.width c.args.place first below fine place
            ∙ ap (λ (n : ℕ). rows_faults names c.args.width n below) (sym counted) ∙ c.in_ok-add_rows-2.ensures.1.0,
        tt,
      ),
    )
