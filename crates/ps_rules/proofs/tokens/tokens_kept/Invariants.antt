use Rattle.std.proofs.Common.{◌≡◌, ◌++◌, drop}
use Rattle.ps_model.specs.rules.RuleSymbols.{tokens_kept}
use Rattle.ps_rules.specs.SymbolsShown.{tokens_shown}
use Rattle.ps_rules.proofs.tokens.tokens_kept.Given as goal

abbrev pub invariant-loop-token : goal.invariant-loop-token
invariant-loop-token l = tokens_shown l.kept.items ++ tokens_kept (tokens_shown (drop l.token-index l.tokens)) ≡
    tokens_kept (tokens_shown l.tokens)
