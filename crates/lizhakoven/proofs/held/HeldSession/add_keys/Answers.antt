use Rattle.std.proofs.Common.{List, ℕ, subst, sym}
use Rattle.lizhakoven.proofs.Goings.{AreKept, kept_with_more}
use Rattle.lizhakoven.proofs.held.HeldSession.add_keys.Goals as goal

pub invariant_of-self-2 : goal.invariant_of-self-2
invariant_of-self-2 c =
    subst (λ (keys : List ℕ). AreKept c.self.inside.game.value c.self.inside.entry keys c.self.inside.played)
    (sym c.in_ok-extend_from_slice.ensures.items)
    (kept_with_more c.self.inside.game.value c.self.inside.entry c.self.inside.keys.items c.args.keys.now
    c.self.inside.played c.self.invariant)
