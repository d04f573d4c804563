use Rattle.std.proofs.Common.{◌∙◌, ap}
use Rattle.ps_model.specs.meaning.CompiledRules.{compiled_cell}
use Rattle.std.specs.Prelude.{map}
use Rattle.ps_rules.specs.RulesShown.{part_shown}
use Rattle.ps_readings.specs.ReadingsShown.{reading_shown}
use Rattle.ps_program.specs.ProgramShown.{cell_shown}
use Rattle.ps_compile.specs.TurnedRows.{part_from}
use Rattle.ps_compile.proofs.MadePieces.{shown-more}
use Rattle.ps_compile.proofs.rules.compiled_parts.Goals as goal

pub loop-part-preserved : goal.loop-part-preserved
loop-part-preserved c =
    shown-more (map cell_shown) (part_from c.args.backwards
    (compiled_cell c.args.names.now c.args.occurrences.now (reading_shown c.args.reading.now))) part_shown
    c.loop-part.made.items c.push.new.self.items _
    c.in_ok-compiled.compiled c.part-item.result c.args.row.now c.loop-part.part-index c.in_ok-push.ensures.items
    (c.in_ok-compiled.ensures ∙ ap (λ seen. part_from c.args.backwards
    (compiled_cell c.args.names.now c.args.occurrences.now (reading_shown c.args.reading.now)) (part_shown seen))
    c.as_slice.ensures)
    c.loop-part-test.true c.part-item.is c.loop-part.invariant
