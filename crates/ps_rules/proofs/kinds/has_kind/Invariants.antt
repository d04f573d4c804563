use Rattle.std.proofs.Common.{◌≡◌, drop}
use Rattle.ps_model.specs.rules.RuleShape.{has_kind}
use Rattle.ps_rules.specs.Kinds.{is_kind}
use Rattle.ps_rules.specs.SymbolsShown.{tokens_shown}
use Rattle.ps_rules.proofs.kinds.has_kind.Given as goal

abbrev pub invariant-loop-token : goal.invariant-loop-token
invariant-loop-token l = has_kind (is_kind l.kind) (tokens_shown (drop l.token-index l.tokens)) ≡ has_kind
    (is_kind l.kind) (tokens_shown l.tokens)
