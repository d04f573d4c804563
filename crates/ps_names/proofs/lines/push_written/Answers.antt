use Rattle.std.proofs.Common.{◌≡◌, ◌∙◌, refl, rules, false, map}
use Rattle.std.proofs.lemmas.List.{map-append}
use Rattle.ps_model.specs.text.LineNumbers.{line_at}
use Rattle.ps_model.specs.text.Lines.{is_blank_line}
use Rattle.ps_model.specs.text.Words.{word_texts}
use Rattle.ps_text.specs.WordViews.{text_of}
use Rattle.ps_laws.proofs.common.LinesInOrder.{line_at-number}
use Rattle.ps_names.proofs.lines.push_written.Goals as goal

pub returns-clause-lines : goal.returns-clause-lines
returns-clause-lines c =
    let written : is_blank_line (line_at c.args.source.now c.args.line) ≡ false = search rules in
    let texts : map text_of c.in_ok-words.words.items ≡ word_texts c.args.cut
    (line_at c.args.source.now c.args.line).bytes =
    c.in_ok-words.ensures.texts ∙ c.requires.plain (line_at c.args.source.now c.args.line).bytes in
    rw (
      c.in_ok-push.ensures.items,
      map-append,
      written,
      texts,
      line_at-number c.args.source.now c.args.line c.requires.there.0 c.requires.there.1,
    ) refl
