use Rattle.std.proofs.Common.{◌<◌, ◌∙◌, ap, rules, arith, length}
use Rattle.std.specs.Str.{chars}
use Rattle.ps_facts.specs.LineWords.{IsWordOf}
use Rattle.ps_facts.specs.NamesShown.{names_shown}
use Rattle.ps_causes.proofs.SomeWords.{holds-of_first}
use Rattle.ps_causes.proofs.open_glyphs.open_glyph.Goals as goal

pub first_open-requires-clause-known : goal.first_open-requires-clause-known
first_open-requires-clause-known c =
    ap (λ items. names_shown items) c.deref.ensures.value ∙ c.in_ok-known.ensures

pub first_open-requires-clause-row : goal.first_open-requires-clause-row
first_open-requires-clause-row c =
    let some : 0 < length c.in_ok-words.words.items = search (rules, arith) in
    holds-of_first (IsWordOf c.args.source.now c.args.line) c.in_ok-words.words.items c.index.result.now some
    c.index.ensures c.in_ok-words.ensures.each

pub first_open-requires-clause-characters : goal.first_open-requires-clause-characters
first_open-requires-clause-characters c =
    c.deref-2.ensures.value ∙ c.in_ok-characters.ensures ∙ ap chars c.text.ensures
