-- Rules without a combination on a board.
use Rattle.std.specs.Prelude.{◌≡◌, ◌<◌, ◌≤◌, ℕ, Option, List, [], slice_index_or}
use Rattle.ps_model.specs.board.Grid.{Grid}
use Rattle.ps_model.specs.board.Attempts.{combinations_on}
use Rattle.ps_program.specs.declared.rules.CompiledRule.{CompiledRule}
use Rattle.ps_engine.specs.RulesInRoom.{rule_meaning}

-- no rule from one number on, before another, has a combination on a grid
abbrev pub AreIdleBetween : Grid → Option (List ℕ) → List CompiledRule → ℕ → ℕ → Type 0
AreIdleBetween g table rules from to = (k : ℕ) (d : CompiledRule) → from ≤ k → k < to →
    combinations_on g (rule_meaning table (slice_index_or rules k d)) ≡ []
