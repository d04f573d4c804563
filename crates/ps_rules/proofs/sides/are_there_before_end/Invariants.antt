use Rattle.std.proofs.Common.{◌≡◌, drop}
use Rattle.ps_model.specs.rules.RuleShape.{before_end, words_before}
use Rattle.ps_model.specs.rules.RuleShapeFaults.{are_there}
use Rattle.ps_rules.specs.ShapesShown.{side_shown, rows_shown}
use Rattle.ps_rules.specs.SymbolsShown.{tokens_shown}
use Rattle.ps_rules.proofs.sides.are_there_before_end.Given as goal

abbrev pub invariant-loop-row : goal.invariant-loop-row
invariant-loop-row l = are_there (words_before (tokens_shown l.words) (rows_shown (drop l.row-index l.row-items))) ≡
    are_there (before_end (side_shown l.side))
