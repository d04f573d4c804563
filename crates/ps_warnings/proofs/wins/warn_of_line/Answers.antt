use Rattle.std.proofs.Common.{rules, ◌≡◌, ◌∙◌, ◌++◌, List, true, ap₂, sym, subst}
use Rattle.std.specs.Prelude.{OnOk}
use Rattle.ps_model.specs.text.Lines.{words_of_line}
use Rattle.ps_model.specs.text.LineNumbers.{line_at}
use Rattle.ps_laws.proofs.common.LinesInOrder.{line_at-number}
use Rattle.ps_warnings.specs.declared.kinds.Warning.{Warning}
use Rattle.ps_warnings.specs.WinWarnings.{kind_of_win, warned_of_win, warnings_of_win}
use Rattle.ps_warnings.proofs.LinesPassed.{made_here}
use Rattle.ps_warnings.proofs.wins.warn_of_line.Goals as goal

pub returns : goal.returns
returns c =
    let text = c.args.source.now in
    let line = c.args.line in
    let there : (line_at text line).is_there ≡ true = search rules in
    let names = c.args.facts.now.names.now in
    let there_are = c.args.facts.now.there.now in
    let kind : c.kind_of.result ≡ kind_of_win names there_are (words_of_line (line_at text line)) = search rules in
    let number : line ≡ (line_at text line).number = sym (line_at-number text line c.requires.0 c.requires.1) in
    let own : warned_of_win c.kind_of.result line ≡ _ =
    ap₂ warned_of_win kind number ∙ sym (made_here (warnings_of_win names there_are) text line there) in
    subst (λ (more : List Warning). OnOk c.warn_if.result (c.warn_if.new.told.items ≡ c.args.told.now.items ++ more))
    own c.warn_if.ensures
