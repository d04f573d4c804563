use Rattle.std.proofs.Common.{◌≡◌, ℕ, List, Option, drop, fold}
use Rattle.ps_model.specs.rules.RuleTree.{with_command}
use Rattle.ps_model.specs.rules.SourceRules.{no_commands}
use Rattle.ps_rules.specs.Asked.{asked_shown}
use Rattle.ps_rules.specs.SymbolsShown.{tokens_shown}
use Rattle.ps_rules.proofs.commands.asked_by.Given as goal

abbrev pub invariant-loop-token : goal.invariant-loop-token
invariant-loop-token l =
    (text : Option (List ℕ)) → fold (λ commands token.
    with_command text commands token.symbol) (asked_shown text l.asked) (tokens_shown (drop l.token-index l.tokens))
    ≡ fold (λ commands token. with_command text commands token.symbol) no_commands (tokens_shown l.tokens)
