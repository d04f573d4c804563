use Rattle.std.proofs.Common.{rules, ◌≡◌, ◌∙◌, ◌++◌, List, true, ap, ap₂, sym, subst}
use Rattle.std.specs.Prelude.{OnOk}
use Rattle.ps_model.specs.text.Lines.{first_word}
use Rattle.ps_model.specs.text.LineNumbers.{line_at}
use Rattle.ps_laws.proofs.common.LinesInOrder.{line_at-number}
use Rattle.ps_warnings.specs.declared.kinds.Warning.{Warning}
use Rattle.ps_warnings.specs.OptionWarnings.{warnings_of_option, warnings_of_word}
use Rattle.ps_warnings.specs.PreludeWords.{misspelt}
use Rattle.ps_warnings.proofs.LinesPassed.{made_here}
use Rattle.ps_warnings.proofs.options.warn_of_line.Goals as goal

pub returns : goal.returns
returns c =
    let text = c.args.source.now in
    let line = c.args.line in
    let there : (line_at text line).is_there ≡ true = search rules in
    let word : c.as_str.result.now ≡ first_word (line_at text line) = search rules in
    let meant : c.misspelt.result ≡ misspelt (first_word (line_at text line)) =
    c.misspelt.ensures ∙ ap misspelt word in
    let number : line ≡ (line_at text line).number = sym (line_at-number text line c.requires.0 c.requires.1) in
    let own : warnings_of_word line c.misspelt.result ≡ _ =
    ap₂ warnings_of_word number meant ∙ sym (made_here warnings_of_option text line there) in
    subst (λ (more : List Warning). OnOk c.warn_of.result (c.warn_of.new.told.items ≡ c.args.told.now.items ++ more))
    own c.warn_of.ensures
