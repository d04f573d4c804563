-- Counts of readings, up to one more than a rule may have: how many more there are makes no difference.
use Rattle.std.specs.Prelude.{ℕ, ◌+◌, nat_lt, if◌then◌else◌}
use Rattle.ps_model.specs.declared.limits.TheConstants.{RULE_READINGS_LIMIT}

-- a count as far as it is counted
abbrev pub counted : ℕ → ℕ
counted count = if nat_lt RULE_READINGS_LIMIT count then RULE_READINGS_LIMIT + 1 else count
