use Rattle.std.proofs.Common.{rules}
use Rattle.ps_game.proofs.parts.rules_of.Goals as goal

pub returns : goal.returns
returns c = rw c.requires.rules.same (search rules)
