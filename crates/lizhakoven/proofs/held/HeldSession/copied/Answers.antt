use Rattle.lizhakoven.proofs.Goings.{AreKept, kept_after, named_if}
use Rattle.lizhakoven.proofs.held.HeldSession.copied.Goals as goal

pub copied_if-requires : goal.copied_if-requires
copied_if-requires c = record {
  named = rw c.deref-2.ensures (named_if c.self.inside.game.value.names c.self.inside.keys.items c.self.inside.played
      c.self.invariant.0);
}

pub invariant_of-self : goal.invariant_of-self
invariant_of-self c =
    kept_after c.self.inside.game.value c.self.inside.entry c.self.inside.keys.items c.self.inside.played
    c.copied_if.new.played c.copied_if.ensures.of_keys c.copied_if.ensures.led_to c.self.invariant

pub invariant_of-self-2 : goal.invariant_of-self-2
invariant_of-self-2 c =
    kept_after c.self.inside.game.value c.self.inside.entry c.self.inside.keys.items c.self.inside.played
    c.copied_if.new.played c.copied_if.ensures.of_keys c.copied_if.ensures.led_to c.self.invariant

pub invariant_of-result : goal.invariant_of-result
invariant_of-result c =
    let kept : AreKept c.self.inside.game.value c.self.inside.entry c.self.inside.keys.items c.in_ok-played.played =
    kept_after c.self.inside.game.value c.self.inside.entry c.self.inside.keys.items c.self.inside.played
    c.in_ok-played.played c.in_ok-played.ensures.copy_of_keys c.in_ok-played.ensures.copy_led_to
    c.self.invariant in
    rw (c.in_ok-game.ensures.cases, c.in_ok-keys.ensures.items, c.deref.ensures.value) kept
