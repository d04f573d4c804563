use Rattle.std.proofs.Common.{rules, ◌∙◌, ap, sym, subst}
use Rattle.ps_model.specs.meaning.CompiledRules.{compiled_cell}
use Rattle.ps_rules.specs.RulesShown.{tree_row_shown}
use Rattle.ps_readings.specs.ReadingsShown.{reading_shown}
use Rattle.ps_program.specs.ProgramShown.{row_shown}
use Rattle.ps_compile.specs.TurnedRows.{row_from}
use Rattle.ps_laws.specs.WholeRows.{IsWholeRow}
use Rattle.ps_compile.proofs.WholeRows.{shown-at}
use Rattle.ps_compile.proofs.MadePieces.{shown-more}
use Rattle.ps_compile.proofs.rules.compiled_rows.Goals as goal

pub loop-row-preserved : goal.loop-row-preserved
loop-row-preserved c = (
  search rules,
  shown-more row_shown (row_from c.args.backwards
      (compiled_cell c.args.names.now c.args.occurrences.now (reading_shown c.args.reading.now))) tree_row_shown
      c.loop-row.made.items c.push.new.self.items _
      c.in_ok-compiled.compiled c.row-item.result c.args.rows.now c.loop-row.row-index c.in_ok-push.ensures.items
      (c.in_ok-compiled.ensures.row ∙ ap (λ seen.
      row_from c.args.backwards (compiled_cell c.args.names.now c.args.occurrences.now
      (reading_shown c.args.reading.now)) (tree_row_shown seen)) c.as_slice.ensures)
      c.loop-row-test.true c.row-item.is c.loop-row.invariant.1,
)

pub compiled_row-requires : goal.compiled_row-requires
compiled_row-requires c =
    subst (λ seen. IsWholeRow (tree_row_shown seen)) (sym c.as_slice.ensures)
    (shown-at IsWholeRow tree_row_shown c.args.rows.now c.row-item.result c.loop-row.row-index c.requires
    c.loop-row-test.true c.row-item.is)
