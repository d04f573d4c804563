use Rattle.std.proofs.Common.{rules, ◌≡◌, ◌∙◌, true, ap, ap₂, sym}
use Rattle.ps_model.specs.text.LineNumbers.{line_at}
use Rattle.ps_laws.proofs.common.LinesInOrder.{line_at-number}
use Rattle.ps_warnings.specs.Marks.{marked}
use Rattle.ps_warnings.specs.NameWarnings.{declares, declaring_line, others_by, others_named}
use Rattle.ps_warnings.specs.Numbers.{number_if}
use Rattle.ps_warnings.proofs.LinesPassed.{made_here}
use Rattle.ps_warnings.proofs.used_names.pass.Goals as goal

pub returns-clause-used : goal.returns-clause-used
returns-clause-used c =
    let text = c.args.source.now in
    let line = c.args.line in
    let there : (line_at text line).is_there ≡ true = search rules in
    let number : line ≡ (line_at text line).number = sym (line_at-number text line c.requires.0 c.requires.1) in
    c.mark_if.ensures
    ∙ ap (marked c.args.used.now)
    (ap₂ others_by number (c.deref-2.ensures.value ∙ c.in_ok-named.ensures)
    ∙ sym (made_here (others_named c.args.names.now) text line there))

pub returns-clause-declares : goal.returns-clause-declares
returns-clause-declares c =
    let text = c.args.source.now in
    let line = c.args.line in
    let there : (line_at text line).is_there ≡ true = search rules in
    let number : line ≡ (line_at text line).number = sym (line_at-number text line c.requires.0 c.requires.1) in
    ap₂ number_if (c.declares-declares.ensures
    ∙ ap₂ declares number (c.deref.ensures.value ∙ c.in_ok-named.ensures)) number
    ∙ sym (made_here (declaring_line c.args.names.now) text line there)
