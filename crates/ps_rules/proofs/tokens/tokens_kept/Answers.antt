use Rattle.std.proofs.Common.{◌∷◌, [], ◌+◌, List, not, refl, drop}
use Rattle.std.proofs.lemmas.List.Elements.{filter-append}
use Rattle.ps_model.specs.rules.RuleSymbols.{Token as Meant, tokens_kept, is_left_out}
use Rattle.ps_rules.specs.declared.symbols.Token.{Token}
use Rattle.ps_rules.specs.SymbolsShown.{token_shown, tokens_shown}
use Rattle.ps_names.proofs.common.Loops.{made-more}
use Rattle.ps_rules.proofs.Loops.{loop-end}
use Rattle.ps_rules.proofs.tokens.tokens_kept.Goals as goal

pub loop-token-preserved : goal.loop-token-preserved
loop-token-preserved c =
    made-more (λ (ts : List Token). tokens_kept (tokens_shown ts)) (tokens_shown c.loop-token.kept.items)
    (tokens_shown c.push_kept.new.kept.items) (tokens_kept (token_shown c.token-item.result ∷ []))
    (tokens_kept (tokens_shown c.args.tokens.now)) c.args.tokens.now c.loop-token.token-index c.token-item.result _
    c.in_ok-push_kept.ensures c.loop-token-test.true c.token-item.is
    (filter-append (λ (token : Meant). not (is_left_out token.symbol)) (token_shown c.token-item.result ∷ [])
    (tokens_shown (drop (c.loop-token.token-index + 1) c.args.tokens.now))) c.loop-token.invariant

pub returns : goal.returns
returns c =
    loop-end (tokens_shown c.loop-token.kept.items) (tokens_kept (tokens_shown c.args.tokens.now))
    (λ (ts : List Token). tokens_kept (tokens_shown ts)) c.args.tokens.now c.loop-token.token-index refl
    c.loop-token.invariant c.loop-token-test.false
