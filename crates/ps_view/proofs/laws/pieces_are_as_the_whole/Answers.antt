use Rattle.ps_view.proofs.Steps.{handed_on-append, view_behind-append}
use Rattle.ps_view.proofs.laws.pieces_are_as_the_whole.Goals as goal

pub returns : goal.returns
returns c = record { handed_on = handed_on-append; view = view_behind-append }
