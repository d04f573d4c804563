-- The past begins with what is asked for.
use Rattle.ps_view.proofs.viewed.Viewed.begin.Given as goal

abbrev pub ghost-new : goal.ghost-new
ghost-new g a = g.begun
