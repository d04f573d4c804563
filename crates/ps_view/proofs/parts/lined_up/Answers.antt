use Rattle.std.proofs.Common.{sym}
use Rattle.ps_view.proofs.LinedUp.{lined_up_alone}
use Rattle.ps_view.proofs.parts.lined_up.Goals as goal

pub returns-then-width-le1 : goal.returns-then-width-le1
returns-then-width-le1 c = sym (lined_up_alone c.args.width c.args.characters c.if-width-le1.true)
