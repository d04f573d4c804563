use Rattle.ps_view.proofs.HarmlessViews.{screens_are_harmless, screens_of_pieces_are_harmless}
use Rattle.ps_view.proofs.laws.screens_are_harmless.Goals as goal

pub returns : goal.returns
returns c = record { whole = screens_are_harmless; pieces = screens_of_pieces_are_harmless }
