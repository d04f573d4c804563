use Rattle.std.proofs.Common.{rules, tests, ◌∙◌, sym, ap, map}
use Rattle.std.proofs.lemmas.Iterator.Consumers.{map_from_collect}
use Rattle.std.proofs.lemmas.Iterator.Splits.{YieldsList-from_slice_split}
use Rattle.ps_rules.specs.SymbolsShown.{token_shown, tokens_shown, symbol_shown}
use Rattle.ps_rules.specs.Kinds.{is_kind}
use Rattle.ps_rules.proofs.Cuts.{if_ok, cut-shown, parts-now}
use Rattle.ps_rules.proofs.kinds.cut_at.Goals as goal

pub returns : goal.returns
returns c =
    if_ok c.collect.result (λ parts h. sym (parts-now token_shown parts.items) ∙ ap (map tokens_shown) h
    ∙ cut-shown (λ t. is_kind c.args.kind t.symbol) token_shown c.args.tokens.now)
    (map_from_collect _ c.collect.ensures.ran (YieldsList-from_slice_split _ (λ t.
    is_kind c.args.kind (symbol_shown t.symbol)) c.args.tokens.now c.split.ensures.rest c.split.ensures.done
    c.split.ensures.closure (λ x r q k. search (rules, tests))))
