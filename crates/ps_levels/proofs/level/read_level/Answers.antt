use Rattle.std.proofs.Common.{rules, ◌≡◌, ◌≤◌, ◌∙◌, ◌+◌, ◌∷◌, suc, ap, sym, List, length, arith}
use Rattle.std.specs.Prelude.{Vec}
use Rattle.std.specs.Global.{Global}
use Rattle.std.specs.Borrow.{Bor}
use Rattle.std.proofs.lemmas.List.{length-map}
use Rattle.ps_model.specs.declared.pieces.ObjectId.{ObjectId}
use Rattle.ps_model.specs.declared.limits.TheConstants.{SIDE_LIMIT}
use Rattle.ps_model.specs.text.Lines.{Line}
use Rattle.ps_model.specs.text.LineNumbers.{line_at, lines_between}
use Rattle.ps_model.specs.names.Names.{Names}
use Rattle.ps_model.specs.board.Levels.{grounded}
use Rattle.ps_model.specs.session.LevelLines.{row_cells, in_columns}
use Rattle.ps_levels.specs.Cells.{cells_shown, rows_shown}
use Rattle.ps_levels.proofs.LevelSteps.{level-low, level-made}
use Rattle.ps_levels.proofs.level.read_level.Goals as goal

abbrev Row : Type 0
Row = Vec (Bor (List ObjectId)) Global

pub overflow_cast-result-2 : goal.overflow_cast-result-2
overflow_cast-result-2 c =
    let text = c.args.source.now in
    let names = c.args.names.now in
    let first : Line = line_at text c.args.lines.start in
    let below : List Line = lines_between text (c.args.lines.start + 1) c.args.lines.end in
    let low : suc (length below) ≤ SIDE_LIMIT =
    level-low names c.in_ok-width.width c.args.place first below c.in_ok-rows.ensures.1.0 in
    let rows : length c.in_ok-rows.rows.items ≡ length (first ∷ below) =
    sym (length-map c.in_ok-rows.rows.items (λ (row : Row). cells_shown row.items)) ∙ ap length c.in_ok-rows.ensures.0
    ∙ length-map (first ∷ below) (row_cells names c.in_ok-width.width) in
    omega (arith, low, rows, c.in_ok-rows.rows.ok.0, c.len.ensures)

pub returns-clause-read : goal.returns-clause-read
returns-clause-read c =
    let text = c.args.source.now in
    let names = c.args.names.now in
    let first : Line = line_at text c.args.lines.start in
    let below : List Line = lines_between text (c.args.lines.start + 1) c.args.lines.end in
    let w = c.in_ok-width.width in
    let shown = rows_shown c.in_ok-rows.rows.items in
    let rows : length c.in_ok-rows.rows.items ≡ length (first ∷ below) =
    sym (length-map c.in_ok-rows.rows.items (λ (row : Row). cells_shown row.items)) ∙ ap length c.in_ok-rows.ensures.0
    ∙ length-map (first ∷ below) (row_cells names w) in
    let height : c.len.result ≡ length (first ∷ below) = omega (arith, rows, c.in_ok-rows.rows.ok.0, c.len.ensures) in
    let cells : cells_shown c.in_ok-cells.cells.items ≡ in_columns w shown = c.in_ok-cells.ensures
    ∙ ap (λ (rs : List Row). in_columns w (rows_shown rs)) c.deref.ensures.value in
    let filled : c.in_ok-cells-2.cells ≡ grounded names (in_columns w shown) =
    c.in_ok-cells-2.ensures ∙ ap (λ (ns : Names). grounded ns (cells_shown c.deref-2.result.now)) c.names.ensures
    ∙ ap (λ (cs : List (Bor (List ObjectId))).
    grounded names (cells_shown cs)) c.deref-2.ensures.value ∙ ap (grounded names) cells in (
      level-made names w c.len.result c.in_ok-cells-2.cells first below c.in_ok-width.ensures.value height (filled
          ∙ ap (λ (rs : List (List (List ObjectId))). grounded names (in_columns w rs)) c.in_ok-rows.ensures.0),
      search rules,
    )
