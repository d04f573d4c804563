use Rattle.std.proofs.Common.{◌≡◌, drop}
use Rattle.ps_model.specs.text.Faults.{first_fault}
use Rattle.ps_model.specs.rules.ReadingFaults.{impossible_rules}
use Rattle.ps_game.proofs.possible.first_impossible.Given as goal

abbrev pub invariant-loop-rule : goal.invariant-loop-rule
invariant-loop-rule l =
    first_fault (impossible_rules l.names (drop l.rule-index l.rules)) ≡ first_fault (impossible_rules l.names l.rules)
