use Rattle.std.proofs.Common.{◌≡◌, drop}
use Rattle.ps_model.specs.rules.RuleShapeFaults.{misses_name, misses_name_behind}
use Rattle.ps_rules.specs.SymbolsShown.{symbol_shown, tokens_shown}
use Rattle.ps_rules.proofs.sides.misses_name.Given as goal

abbrev pub invariant-loop-token : goal.invariant-loop-token
invariant-loop-token l = misses_name_behind (symbol_shown l.before) (tokens_shown (drop l.token-index l.cell)) ≡
    misses_name (tokens_shown l.cell)
