use Rattle.std.proofs.Common.{◌≡◌, ◌∙◌, ap, rules, All, map}
use Rattle.ps_text.specs.WordViews.{text_of}
use Rattle.ps_facts.specs.LineWords.{IsWordOf, texts_of}
use Rattle.ps_causes.specs.Meant.{names_in}
use Rattle.ps_causes.proofs.barred.barred_cause.Goals as goal

pub returns : goal.returns
returns c =
    let names : c.in-Some.names ≡ names_in c.args.source.now = search rules in
    let each : All (IsWordOf c.args.source.now c.args.line) c.deref.result.now =
    rw c.deref.ensures.value c.in_ok-words.ensures.each in
    let texts : map text_of c.deref.result.now ≡ texts_of c.args.source.now c.args.line =
    ap (λ items. map text_of items) c.deref.ensures.value ∙ c.in_ok-words.ensures.texts in
    c.first_barred.ensures c.args.source.now c.args.line names each texts
