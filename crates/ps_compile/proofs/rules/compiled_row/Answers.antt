use Rattle.std.proofs.Common.{◌≡◌, ◌∙◌, ap, map, sym, subst}
use Rattle.ps_model.specs.meaning.CompiledRules.{compiled_cell}
use Rattle.ps_rules.specs.RulesShown.{tree_row_shown}
use Rattle.ps_readings.specs.ReadingsShown.{reading_shown}
use Rattle.ps_laws.specs.WholeRows.{IsWholeRow}
use Rattle.ps_program.specs.ProgramShown.{cell_shown, parts_shown}
use Rattle.ps_compile.specs.TurnedRows.{from_end, row_from}
use Rattle.ps_compile.proofs.TurnedRules.{shown-from_end}
use Rattle.ps_compile.proofs.WholeRows.{whole-from, whole-shown}
use Rattle.ps_compile.proofs.rules.compiled_row.Goals as goal

pub invariant_of-result : goal.invariant_of-result
invariant_of-result c =
    let cell : _ = compiled_cell c.args.names.now c.args.occurrences.now (reading_shown c.args.reading.now) in
    let shown : parts_shown c.from_end-parts.result ≡ row_from c.args.backwards cell (tree_row_shown c.args.row.now) =
    ap parts_shown c.from_end-parts.ensures ∙ shown-from_end c.args.backwards (map cell_shown)
    c.in_ok-parts.parts.items ∙ ap (from_end c.args.backwards) c.in_ok-parts.ensures in
    let whole : IsWholeRow c.from_end-parts.result =
    whole-shown cell_shown c.from_end-parts.result
    (subst IsWholeRow (sym shown) (whole-from c.args.backwards cell (tree_row_shown c.args.row.now) c.requires)) in
    record { some = whole.some; few = whole.few; whole = whole.cells }

pub returns-clause-row : goal.returns-clause-row
returns-clause-row c =
    ap parts_shown c.from_end-parts.ensures ∙ shown-from_end c.args.backwards (map cell_shown)
    c.in_ok-parts.parts.items ∙ ap (from_end c.args.backwards) c.in_ok-parts.ensures
