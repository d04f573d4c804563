use Rattle.std.proofs.Common.{◌≡◌, ◌||◌, ℕ, drop}
use Rattle.std.specs.List.{list_any}
use Rattle.ps_rules.specs.RulesShown.{cell_list_shown}
use Rattle.ps_rules.specs.Unmatched.{is_in, is_unmatched}
use Rattle.ps_rules.proofs.unmatched.unmatched_in.Given as goal

abbrev pub invariant-loop-cell : goal.invariant-loop-cell
invariant-loop-cell l = (line : ℕ) → (list_any (is_unmatched line) (cell_list_shown (drop l.cell-index l.cells)) ||
    is_in l.lines line) ≡ list_any (is_unmatched line) (cell_list_shown l.cells)
