use Rattle.std.proofs.Common.{◌≡◌, ◌++◌, drop}
use Rattle.ps_model.specs.rules.RuleTree.{items_of, items_behind}
use Rattle.ps_rules.specs.RulesShown.{items_shown}
use Rattle.ps_rules.specs.SymbolsShown.{symbol_shown, tokens_shown}
use Rattle.ps_rules.proofs.items.items_of.Given as goal

abbrev pub invariant-loop-token : goal.invariant-loop-token
invariant-loop-token l = items_shown l.items.items ++ items_behind (symbol_shown l.before)
    (tokens_shown (drop l.token-index l.tokens)) ≡ items_of (tokens_shown l.tokens)
