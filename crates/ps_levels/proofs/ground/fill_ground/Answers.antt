use Rattle.std.proofs.Common.{[], arith, refl, List}
use Rattle.std.specs.Borrow.{Bor}
use Rattle.ps_model.specs.declared.pieces.ObjectId.{ObjectId}
use Rattle.ps_model.specs.board.Levels.{with_ground}
use Rattle.ps_levels.proofs.Grounds.{grown, grounds}
use Rattle.ps_levels.proofs.ground.fill_ground.Goals as goal

abbrev no_cell : Bor (List ObjectId)
no_cell = record { ref_ptr = (0, 0); now = [] }

pub loop-objects-preserved : goal.loop-objects-preserved
loop-objects-preserved c =
    grown (with_ground c.args.names.now c.first_on-filler.result) c.args.cells.now c.loop-objects.objects-index no_cell
    c.loop-objects.made c.add_filled.new.cells _ (omega arith)
    c.loop-objects.invariant c.in_ok-add_filled.ensures refl

pub returns : goal.returns
returns c =
    grounds c.args.names.now c.args.cells.now c.loop-objects.objects-index
    c.loop-objects.made c.background-background.result c.first_on-filler.result c.layer_of-layer.result.0
    (omega arith)
    c.background-background.ensures c.layer_of-layer.ensures.layer c.first_on-filler.ensures c.loop-objects.invariant
