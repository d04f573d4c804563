use Rattle.std.proofs.Common.{◌≡◌, ◌++◌, drop}
use Rattle.ps_model.specs.rules.ReadingFaults.{impossible_rules}
use Rattle.ps_game.proofs.telling_readings.impossible_rules.Given as goal

abbrev pub invariant-loop-rule : goal.invariant-loop-rule
invariant-loop-rule l =
    l.told.items ++ impossible_rules l.names (drop l.rule-index l.rules) ≡ impossible_rules l.names l.rules
