use Rattle.std.proofs.Common.{refl}
use Rattle.ps_readings.proofs.WayByWay.{lists-turned, showing-turned, ways-turned}
use Rattle.ps_readings.proofs.ways.Ways.next.Goals as goal

pub invariant_of-self : goal.invariant_of-self
invariant_of-self g c = record {
  showing = λ more. showing-turned c.args.self.now.wheels.items c.turn_to_next-more.new.wheels.items
      c.turn_to_next-more.result (c.args.self.now.showing c.if-self.false) c.turn_to_next-more.ensures.next more;
}

pub returns-clause-lists : goal.returns-clause-lists
returns-clause-lists g c =
    lists-turned c.args.self.now.wheels.items c.turn_to_next-more.new.wheels.items c.turn_to_next-more.result
    c.turn_to_next-more.ensures.next c.turn_to_next-more.ensures.first

pub returns-clause-left : goal.returns-clause-left
returns-clause-left g c =
    ways-turned c.args.self.now.ended c.args.self.now.wheels.items c.turn_to_next-more.new.wheels.items
    c.turn_to_next-more.result c.push_shown.new.way.items c.if-self.false
    (c.args.self.now.showing c.if-self.false) c.turn_to_next-more.ensures.next c.turn_to_next-more.ensures.none
    (rw (c.in_ok-push_shown.ensures, c.clear.ensures.items, c.deref.ensures.value) refl)
