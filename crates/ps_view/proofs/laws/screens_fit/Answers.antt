use Rattle.ps_view.proofs.Heights.{screens_fit}
use Rattle.ps_view.proofs.Widths.{rows_fit}
use Rattle.ps_view.proofs.laws.screens_fit.Goals as goal

pub returns : goal.returns
returns c = record { rows = screens_fit; columns = rows_fit }
