use Rattle.std.proofs.Common.{refl, arith}
use Rattle.ps_levels.proofs.RowSteps.{front-short, front-long}
use Rattle.ps_levels.proofs.rows.written.Goals as goal

pub returns-then-characters-width : goal.returns-then-characters-width
returns-then-characters-width c = front-short c.args.width _ c.args.characters.now _ refl (omega arith)

pub returns : goal.returns
returns c = front-long c.args.width c.args.characters.now _ (omega arith)
