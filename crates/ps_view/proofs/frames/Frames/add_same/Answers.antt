use Rattle.std.proofs.Common.{arith}
use Rattle.ps_view.proofs.KeptFrames.{kept_same, kept_same_later}
use Rattle.ps_view.proofs.frames.Frames.add_same.Goals as goal

pub invariant_of-self-then-self-place : goal.invariant_of-self-then-self-place
invariant_of-self-then-self-place c =
    kept_same c.args.self.now c.self.inside.players.items c.self.inside.last.items c.self.inside.begun.items
    c.push.new.self.items c.self.inside.player c.self.inside.width c.self.inside.alike c.len-self-inside.result c.args.row
    c.self.view_is c.self.invariant c.requires.place c.requires.same c.requires.player c.in_ok-push.ensures.items
    (omega (arith, c.if-self-place.true, c.len-place.ensures)) (omega (arith, c.len-self-inside.ensures))

pub invariant_of-self-else-self-place : goal.invariant_of-self-else-self-place
invariant_of-self-else-self-place c =
    kept_same_later c.args.self.now c.self.inside.players.items c.self.inside.last.items c.self.inside.begun.items
    c.push.new.self.items c.self.inside.player c.self.inside.width c.self.inside.alike c.args.row c.self.view_is
    c.self.invariant c.requires.player c.in_ok-push.ensures.items
    (λ same. c.if-self-place.false (omega (arith, same, c.len-place.ensures)))
