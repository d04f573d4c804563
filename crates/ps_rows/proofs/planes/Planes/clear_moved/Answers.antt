use Rattle.std.proofs.Common.{◌*◌, ◌≤◌, length, arith}
use Rattle.ps_rows.proofs.PlaneCopies.{empty_cleared}
use Rattle.ps_rows.proofs.planes.Planes.clear_moved.Goals as goal

pub returns-then-not-may_move-clause-words : goal.returns-then-not-may_move-clause-words
returns-then-not-may_move-clause-words g c =
    let p = c.args.self.now in
    let within : c.args.first * p.height ≤ length p.words.items = omega (arith, c.requires.within, p.words.ok.0) in
    empty_cleared (c.args.first * p.height) p.words.items within (c.requires.rest c.if-not-may_move.true)
