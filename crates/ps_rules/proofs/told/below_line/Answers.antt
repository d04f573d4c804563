use Rattle.std.proofs.Common.{◌≡◌, ◌∙◌, List, ap}
use Rattle.ps_model.specs.rules.RuleFaults.{above_next}
use Rattle.ps_model.specs.rules.RuleLines.{form_of}
use Rattle.ps_model.specs.rules.RuleSymbols.{Token, tokens_of, tokens_kept}
use Rattle.ps_model.specs.text.LineNumbers.{line_at}
use Rattle.ps_model.specs.text.Lines.{Line}
use Rattle.ps_rules.specs.AboveShown.{above_shown}
use Rattle.ps_rules.specs.SymbolsShown.{tokens_shown}
use Rattle.ps_rules.proofs.told.below_line.Goals as goal

pub returns-clause-next : goal.returns-clause-next
returns-clause-next c =
    let line : Line = line_at c.args.source.now c.args.line in
    let tokens : tokens_shown c.deref.result.now ≡ tokens_of c.args.names.now line =
    ap tokens_shown c.deref.ensures.value ∙ c.in_ok-tokens.ensures in
    let kept : tokens_shown c.deref-2.result.now ≡ tokens_kept (tokens_of c.args.names.now line) =
    ap tokens_shown c.deref-2.ensures.value ∙ c.in_ok-kept.ensures ∙ ap tokens_kept tokens in
    c.in_ok-next.ensures.next line
    ∙ ap (λ (ts : List Token). above_next (above_shown c.args.above) c.args.line (form_of line ts)) kept
