use Rattle.std.proofs.Common.{[], arith, refl}
use Rattle.std.specs.List.{flat_map}
use Rattle.ps_warnings.specs.ObjectWarnings.{numbers}
use Rattle.ps_warnings.proofs.MarksMade.{marked_step}
use Rattle.ps_warnings.proofs.used_objects.mark_cells.Goals as goal

pub loop-number-preserved : goal.loop-number-preserved
loop-number-preserved c =
    marked_step (flat_map numbers) c.loop-number.marks c.mark_objects.new.marks _ (numbers c.cell.result.now)
    c.args.cells.now c.loop-number.number c.cell.result.now [] c.mark_objects.ensures (omega arith) c.cell.ensures refl
    c.loop-number.invariant
