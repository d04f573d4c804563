use Rattle.std.proofs.Common.{◌≡◌, drop, fold}
use Rattle.ps_model.specs.rules.RuleShape.{at_end}
use Rattle.ps_rules.specs.ShapesShown.{rows_shown, side_shown}
use Rattle.ps_rules.specs.SymbolsShown.{tokens_shown}
use Rattle.ps_rules.proofs.sides.at_end.Given as goal

abbrev pub invariant-loop-row : goal.invariant-loop-row
invariant-loop-row l = fold (λ words row. row.behind) (tokens_shown l.words)
    (rows_shown (drop l.row-index l.row-items)) ≡ at_end (side_shown l.side)
