use Rattle.std.proofs.Common.{◌≡◌, ◌++◌, map, drop}
use Rattle.ps_model.specs.rules.RuleSymbols.{symbol_of}
use Rattle.ps_rules.specs.SymbolsShown.{tokens_shown, token_of_word}
use Rattle.ps_rules.proofs.tokens.push_next.Given as goal

abbrev pub invariant-loop-word : goal.invariant-loop-word
invariant-loop-word l =
    tokens_shown l.tokens.items ++ map (token_of_word (symbol_of l.names)) (drop l.word-index l.words)
    ≡ tokens_shown l.initial.tokens.items ++ map (token_of_word (symbol_of l.names)) l.words
