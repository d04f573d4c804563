use Rattle.ps_laws.proofs.masks.AgreeingCells.{left_on_one_layer, right_on_one_layer}
use Rattle.ps_laws.proofs.laws_of_compiling.loose_properties_lie_on_one_layer.Goals as goal

pub returns-clause-left : goal.returns-clause-left
returns-clause-left c = left_on_one_layer

pub returns-clause-right : goal.returns-clause-right
returns-clause-right c = right_on_one_layer
