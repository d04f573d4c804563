use Rattle.std.proofs.Common.{rules, ◌≡◌, List, true, sym, subst}
use Rattle.std.specs.Prelude.{OnOk}
use Rattle.ps_model.specs.declared.texts.Cut.TheVariants.{Rule}
use Rattle.ps_model.specs.text.LineNumbers.{line_at}
use Rattle.ps_text.specs.WordViews.{texts_under}
use Rattle.ps_laws.proofs.common.LinesInOrder.{line_at-number}
use Rattle.ps_warnings.specs.declared.kinds.Warning.{Warning}
use Rattle.ps_warnings.specs.WordWarnings.{are_late_twice}
use Rattle.ps_warnings.proofs.WordsTold.{words_told}
use Rattle.ps_warnings.proofs.word_lines.warn_of_words.Goals as goal

pub returns : goal.returns
returns c =
    let text = c.args.source.now in
    let line = c.args.line in
    let there : (line_at text line).is_there ≡ true = search rules in
    let late : c.are_late_twice.result ≡ are_late_twice (texts_under Rule (line_at text line).bytes) = search rules in
    let number = sym (line_at-number text line c.requires.0 c.requires.1) in
    let whole = words_told text line c.are_late_twice.result c.is_textless.result c.args.told.now.items
    c.warn_if.new.told.items there number late c.is_textless.ensures c.in_ok-warn_if.ensures in
    subst (λ (all : List Warning). OnOk c.warn_if-2.result (c.warn_if-2.new.told.items ≡ all)) whole
    c.warn_if-2.ensures
