use Rattle.std.proofs.Common.{◌≡◌, ◌≤◌, drop}
use Rattle.ps_model.specs.text.Faults.{first_fault}
use Rattle.ps_model.specs.declared.limits.TheConstants.{READINGS_LIMIT}
use Rattle.ps_model.specs.rules.ReadingFaults.{too_many_readings}
use Rattle.ps_game.proofs.counts.first_too_many.Given as goal

abbrev pub invariant-loop-rule : goal.invariant-loop-rule
invariant-loop-rule l = record {
  few : l.before ≤ READINGS_LIMIT;
  told : first_fault (too_many_readings l.names l.before (drop l.rule-index l.rules)) ≡ first_fault
      (too_many_readings l.names 0 l.rules);
}
