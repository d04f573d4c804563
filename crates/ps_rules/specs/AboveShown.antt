-- What stands above a line, of the code as of the definitions.
use Rattle.std.specs.Prelude.{ℕ, suc, Bool, Some, None}
use Rattle.ps_model.specs.rules.RuleFaults as model
use Rattle.ps_rules.specs.declared.above.Above.{Above}

abbrev pub above_shown : Above → model.Above
above_shown above = record { rules = above.rules; last = above.last; loop = above.start }

-- below a rule
abbrev pub below_rule : model.Above → Bool → model.Above
below_rule above late = record above { rules = suc above.rules; last = Some late }

-- below a `startloop`
abbrev pub below_start : model.Above → ℕ → model.Above
below_start above line = record above { last = None; loop = Some line }

-- below an `endloop`
abbrev pub below_end : model.Above → model.Above
below_end above = record above { last = None; loop = None }
