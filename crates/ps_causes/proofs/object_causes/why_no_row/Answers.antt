use Rattle.std.proofs.Common.{◌∙◌, ap, rules}
use Rattle.std.specs.Str.{chars}
use Rattle.ps_facts.specs.LineWords.{IsWordOf}
use Rattle.ps_causes.proofs.object_causes.why_no_row.Goals as goal

pub returns : goal.returns
returns c =
    let stands : IsWordOf c.args.source.now c.args.line c.in-Some.word = search rules in
    c.why_no_word.ensures c.args.source.now c.args.line
    (c.deref.ensures.value ∙ c.in_ok-characters.ensures ∙ ap chars c.text.ensures) stands
