use Rattle.std.proofs.Common.{◌≡◌, ◌∙◌, ap, All, map}
use Rattle.ps_text.specs.WordViews.{text_of}
use Rattle.ps_facts.specs.LineWords.{IsWordOf, texts_of}
use Rattle.ps_causes.proofs.counts.counts_cause.Goals as goal

pub returns : goal.returns
returns c =
    let each : All (IsWordOf c.args.source.now c.args.line) c.deref.result.now =
    rw c.deref.ensures.value c.in_ok-words.ensures.each in
    let texts : map text_of c.deref.result.now ≡ texts_of c.args.source.now c.args.line =
    ap (λ items. map text_of items) c.deref.ensures.value ∙ c.in_ok-words.ensures.texts in
    c.counts_told.ensures c.args.source.now c.args.line each texts
