use Rattle.std.proofs.Common.{◌≡◌, drop}
use Rattle.std.specs.List.{list_all}
use Rattle.ps_model.specs.rules.RuleShape.{is_ellipsis}
use Rattle.ps_rules.specs.SymbolsShown.{tokens_shown}
use Rattle.ps_rules.proofs.cells.are_ellipses.Given as goal

abbrev pub invariant-loop-token : goal.invariant-loop-token
invariant-loop-token l = list_all (λ token. is_ellipsis token.symbol) (tokens_shown (drop l.token-index l.tokens)) ≡
    list_all (λ token. is_ellipsis token.symbol) (tokens_shown l.tokens)
