use Rattle.std.proofs.Common.{◌≡◌, drop, filter}
use Rattle.ps_model.specs.meaning.Occurrences.{numbers}
use Rattle.ps_rules.specs.RulesShown.{cell_list_shown}
use Rattle.ps_rules.specs.SoughtItems.{found_from, left_of}
use Rattle.ps_rules.specs.Tallies.{Key, has_key, found_at}
use Rattle.ps_rules.specs.declared.sought.Found.TheVariants.{Nothing}
use Rattle.ps_rules.proofs.index.Index.of_left.Given as goal

abbrev pub invariant-loop-cell : goal.invariant-loop-cell
invariant-loop-cell l = (key : Key)
    → found_from (found_at l.index key) (numbers
    (filter (has_key key) (left_of (cell_list_shown (drop l.cell-index l.cells))))) ≡ found_from Nothing
    (numbers (filter (has_key key) (left_of (cell_list_shown l.cells))))
