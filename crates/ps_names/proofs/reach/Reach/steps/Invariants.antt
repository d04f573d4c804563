use Rattle.std.proofs.Common.{◌≡◌, ◌+◌, ◌-◌, ℕ}
use Rattle.ps_names.specs.LegendNames.{reached_with}
use Rattle.ps_names.proofs.reach.Reach.steps.Given as goal

abbrev pub invariant-loop-step : goal.invariant-loop-step
invariant-loop-step l = (rest : ℕ) → reached_with l.legend (l.count - l._step + rest) l.self ≡ reached_with l.legend
    (l.count + rest) l.initial.self
