use Rattle.std.proofs.Common.{rules, ◌≡◌, ◌++◌, List, true, sym, subst}
use Rattle.std.specs.Prelude.{OnOk}
use Rattle.ps_model.specs.text.LineNumbers.{line_at}
use Rattle.ps_laws.proofs.common.LinesInOrder.{line_at-number}
use Rattle.ps_warnings.specs.declared.kinds.Warning.{Warning}
use Rattle.ps_warnings.proofs.WordsTold.{message_told}
use Rattle.ps_warnings.proofs.word_lines.warn_of_message.Goals as goal

pub returns : goal.returns
returns c =
    let text = c.args.source.now in
    let line = c.args.line in
    let there : (line_at text line).is_there ≡ true = search rules in
    let number = sym (line_at-number text line c.requires.0 c.requires.1) in
    let own = message_told text line c.is_textless.result there number c.is_textless.ensures in
    subst (λ (more : List Warning). OnOk c.warn_if.result (c.warn_if.new.told.items ≡ c.args.told.now.items ++ more))
    own c.warn_if.ensures
