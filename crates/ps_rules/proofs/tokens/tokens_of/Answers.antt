use Rattle.std.proofs.Common.{◌≡◌, ◌∙◌, IfOk, List, ap, subst}
use Rattle.ps_model.specs.text.LineNumbers.{line_at}
use Rattle.ps_model.specs.text.Lines.{Line}
use Rattle.ps_model.specs.text.RuleWords.{rule_words_in}
use Rattle.ps_model.specs.rules.RuleSymbols.{Token}
use Rattle.ps_rules.specs.SymbolsShown.{tokens_shown, tokens_of_words}
use Rattle.ps_rules.proofs.TokenLines.{tokens-at}
use Rattle.ps_rules.proofs.tokens.tokens_of.Goals as goal

pub returns : goal.returns
returns c =
    let line : Line = line_at c.args.source.now c.args.line in
    subst (λ (all : List Token). IfOk c.tokens_of_words.result (λ tokens. tokens_shown tokens.items ≡ all))
    (ap (tokens_of_words c.args.names.now) c.deref.ensures.value
    ∙ tokens-at c.args.names.now line c.in_ok-words.words.items (rule_words_in line.bytes) c.in_ok-words.ensures.texts
    c.in_ok-words.ensures.spans) c.tokens_of_words.ensures
