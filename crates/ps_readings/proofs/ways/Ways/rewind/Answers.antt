use Rattle.std.proofs.Common.{◌∙◌, ap, sym}
use Rattle.ps_readings.specs.Wheels.{lists_of, has_empty}
use Rattle.ps_readings.proofs.WayByWay.{lists-first, showing-started, ways-started}
use Rattle.ps_readings.proofs.ways.Ways.rewind.Goals as goal

pub invariant_of-self : goal.invariant_of-self
invariant_of-self g c = record {
  showing = λ full. showing-started c.args.self.now.wheels.items c.turn_to_first.new.wheels.items
      c.turn_to_first.ensures (sym (ap has_empty c.deref.ensures.value) ∙ sym c.has_empty-self.ensures ∙ full);
}

pub returns-clause-lists : goal.returns-clause-lists
returns-clause-lists g c = ap lists_of c.turn_to_first.ensures ∙ lists-first c.args.self.now.wheels.items

pub returns-clause-left : goal.returns-clause-left
returns-clause-left g c =
    ways-started c.args.self.now.wheels.items c.turn_to_first.new.wheels.items c.has_empty-self.result
    c.turn_to_first.ensures (c.has_empty-self.ensures ∙ ap has_empty c.deref.ensures.value)
