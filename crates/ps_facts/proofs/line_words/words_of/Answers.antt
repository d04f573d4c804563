use Rattle.std.proofs.Common.{◌∙◌, ap}
use Rattle.ps_model.specs.declared.texts.Cut.{Cut}
use Rattle.ps_model.specs.text.LineNumbers.{line_at}
use Rattle.ps_text.specs.WordViews.{texts_under}
use Rattle.ps_facts.specs.LineWords.{cut_of, texts_of}
use Rattle.ps_facts.proofs.LineWords.{each_word}
use Rattle.ps_facts.proofs.line_words.words_of.Goals as goal

pub returns-clause-each : goal.returns-clause-each
returns-clause-each c = each_word c.args.source.now c.args.line c.cut_of.result _
    (c.cut_of.ensures ∙ ap cut_of c.section.ensures) c.in_ok-words.ensures.spans c.in_ok-words.ensures.slices

pub returns-clause-texts : goal.returns-clause-texts
unfolding texts_of
returns-clause-texts c =
    c.in_ok-words.ensures.texts ∙ ap (λ (cut : Cut). texts_under cut (line_at c.args.source.now c.args.line).bytes)
    (c.cut_of.ensures ∙ ap cut_of c.section.ensures)
