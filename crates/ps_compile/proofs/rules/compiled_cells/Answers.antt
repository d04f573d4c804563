use Rattle.ps_model.specs.meaning.CompiledRules.{compiled_cell}
use Rattle.ps_rules.specs.RulesShown.{cell_shown as pair_shown}
use Rattle.ps_readings.specs.ReadingsShown.{reading_shown}
use Rattle.ps_program.specs.ProgramShown.{cell_shown}
use Rattle.ps_compile.proofs.MadePieces.{shown-more}
use Rattle.ps_compile.proofs.rules.compiled_cells.Goals as goal

pub loop-cell-preserved : goal.loop-cell-preserved
loop-cell-preserved c =
    shown-more cell_shown (compiled_cell c.args.names.now c.args.occurrences.now (reading_shown c.args.reading.now))
    pair_shown c.loop-cell.made.items c.push.new.self.items _ c.in_ok-compiled.compiled c.cell-item.result
    c.args.part.now c.loop-cell.cell-index c.in_ok-push.ensures.items c.in_ok-compiled.ensures c.loop-cell-test.true
    c.cell-item.is c.loop-cell.invariant
