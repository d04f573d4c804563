use Rattle.std.proofs.Common.{◌∙◌}
use Rattle.ps_readings.proofs.TurnedReadings.{none-taken, one-taken, stepped}
use Rattle.ps_readings.specs.ReadingsLeft.{made_last}
use Rattle.ps_readings.proofs.readings.Readings.next.Goals as goal

pub returns : goal.returns
returns c =
    stepped (made_last c.args.self.now) _ _ _ _ _ _ _ _ _ _ _ _
    (none-taken c.in_ok-more.more _ _ _ c.in_ok-more.ensures.left c.if-more.false)
    (one-taken c.in_ok-turned.turned _ _ _ c.in_ok-turned.ensures c.if-not-turned.false) c.in_ok-more.ensures.lists
    (c.in_ok-begun.ensures.lists ∙ c.rewind.ensures.lists) c.rewind.ensures.left c.in_ok-begun.ensures.left
