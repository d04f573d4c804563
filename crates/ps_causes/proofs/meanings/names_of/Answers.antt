use Rattle.std.proofs.Common.{rules}
use Rattle.ps_causes.specs.Meant.{names_in}
use Rattle.ps_causes.proofs.meanings.names_of.Goals as goal

pub returns-in-Ok : goal.returns-in-Ok
unfolding names_in
returns-in-Ok c = rw (c.requires.objects.same, c.requires.legend.same, c.requires.layers.same) (search rules)
